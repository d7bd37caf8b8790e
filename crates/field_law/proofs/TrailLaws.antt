-- The law of the picture for trails.
use Rattle.std.proofs.Common.{◌≡◌, ℕ, suc, ◌+◌, ◌*◌, ◌≤◌, true, false, All, List, [], ◌∷◌, ◌++◌, length, take, drop, refl, sym, ap, subst}
use Rattle.std.proofs.Common.{◌∙◌, arith, inl, inr}
use Rattle.std.proofs.Common.{⊎_elim, append_assoc, append-nil, length-append, take-append-drop, take_at}
use Rattle.std.proofs.lemmas.Bool.{cases_Bool, or_parts, or_from, true_from_ne_false}
use Rattle.std.proofs.lemmas.List.{take-append-le}
use Rattle.std.proofs.lemmas.List.Elements.{All-head, All-tail}
use Rattle.fifo_model.specs.declared.Entry.{Entry}
use Rattle.fifo_model.specs.declared.Queue.{Queue}
use Rattle.fifo_model.specs.Queues.{queue_state}
use Rattle.irq_status.specs.Register.{fdsr, has}
use Rattle.page_table.specs.Grants.{Chunk}
use Rattle.page_table.specs.Blocks.{chunks_of, byte_at}
use Rattle.machine_model.specs.declared.Job.{Job}
use Rattle.machine_model.specs.declared.Job.TheVariants.{Waiting}
use Rattle.machine_model.specs.Paths.{RiscProgram}
use Rattle.machine_model.specs.States.{State}
use Rattle.machine_model.specs.Turns.{turn, with_interrupts, sets_fdsr}
use Rattle.machine_model.specs.Steps.{Turn, with_program, run_in}
use Rattle.machine_model.specs.Safety.{JobFits, IsOrderly}
use Rattle.machine_model.proofs.Runs.{run_in-append}
use Rattle.field_law.specs.Fields.{Token}
use Rattle.field_law.specs.Sections.{PaintsField, body_stores}
use Rattle.field_law.specs.Trails.{Trail, Leads}
use Rattle.field_law.specs.Arrivals.{Met, after, coming, pushed_by, entries_of, over_queues, is_end, has_end, turns_in}
use Rattle.field_law.specs.TrailLaws.{TrailReceives, TrailShowsPicture, TrailShowsNoFault, TrailEndsWithClosing, TrailIsBounded}
use Rattle.field_law.proofs.Painting.{Settles}
use Rattle.field_law.proofs.Turns.{turn-Reaches}
use Rattle.field_law.proofs.TrailRuns.{Ran, ReachedWith, runs, counted_runs}
use Rattle.field_law.proofs.Closing.{end-AtEnd, closing_quiet, Closes, end-Closes}
use Rattle.field_law.proofs.OnTrail.{StandsOn, along_on}

-- ---- lists of steps

pub all_first : (P : Met → Type 0) (early late : List Met) → All P (early ++ late) → All P late
all_first P [] late h = h
all_first P (met ∷ early) late h = all_first P early late (All-tail P met (early ++ late) h)

pub coming-append : (early late : List Met) (q : Queue) → coming (early ++ late) q ≡ coming early q ++ coming late q
coming-append [] late q = refl
coming-append (met ∷ early) late q =
    ap (λ (entries : List Entry). pushed_by met.1 q ++ entries) (coming-append early late q)
    ∙ sym (append_assoc (pushed_by met.1 q) (coming early q) (coming late q))

pub end-append : (address : ℕ) (m : State) (early late : List Met) → has_end address m (early ++ late) ≡ false →
    (has_end address m early ≡ false) × (has_end address (run_in m early) late ≡ false)
end-append address m [] late h = (refl, h)
end-append address m (met ∷ early) late h =
    let parts = or_parts (is_end address m met.1) (has_end address (after m met) (early ++ late)) h in
    let rest = end-append address (after m met) early late parts.1 in
    (or_from (is_end address m met.1) (has_end address (after m met) early) parts.0 rest.0, rest.1)

-- ---- the beginning

module _ (t : Trail) (field : Queue → List Token) (m : State) (steps : List Met) (r : TrailReceives t field m steps) (given : Type 0)
    (chunks : List Chunk) (final : ℕ → ℕ)
    (painted : given → Settles chunks final m.memory (body_stores t.body field)) where
  abbrev first_bound : ℕ
  first_bound = 5 * suc (length t.body) + 1 + over_queues (entries_of r.arrives.before r.arrives.entries)

  starts : (later rest : Queue → List Entry) →
      ((q : Queue) → (queue_state q m.queues).entries ++ later q ≡ r.arrives.before q ++ (r.arrives.entries q ++ rest q)) →
      ReachedWith t (Leads t) (StandsOn t) (along_on t) field r.uses given chunks final later first_bound m
  starts later rest order =
      let fits : JobFits m.skipping m.target (Waiting t.opening true t.code) =
      subst (λ (job : Job). JobFits m.skipping m.target job) r.arrives.waits r.orderly.job in
      inl (record {
        on = r.arrives.risc_on;
        unskipped = fits.0;
        waits = r.arrives.waits;
        there = r.arrives.there;
        before = r.arrives.before;
        entries = r.arrives.entries;
        rest = rest;
        rests = λ q. tt;
        order = order;
        unmarked = r.arrives.unmarked;
        brings = r.arrives.brought;
        comes = painted;
        bounded = omega arith;
      })

-- ---- up to a turn

module _ (t : Trail) (field : Queue → List Token) (m : State) (early late : List Met) (program : RiscProgram)
    (r : TrailReceives t field m (early ++ (program, Turn) ∷ late))
    (unended : has_end t.end m early ≡ false) (given : Type 0) (chunks : List Chunk) (final : ℕ → ℕ)
    (painted : given → Settles chunks final m.memory (body_stores t.body field)) where
  abbrev seen : Queue → List Entry
  seen = coming ((program, Turn) ∷ late)

  abbrev before : State
  before = with_program program (run_in m early)

  ran : Ran t (Leads t) (StandsOn t) (along_on t) field r.uses given chunks final ((program, Turn) ∷ late) ((program, Turn) ∷ late)
      (first_bound t field m (early ++ (program, Turn) ∷ late) r given chunks final painted) (run_in m early)
  ran =
      runs t (Leads t) (StandsOn t) (along_on t) field r.uses given chunks final early ((program, Turn) ∷ late) ((program, Turn) ∷ late)
      (first_bound t field m (early ++ (program, Turn) ∷ late) r given chunks final painted) m r.orderly r.made r.held
      r.arrives.kept unended
      (starts t field m (early ++ (program, Turn) ∷ late) r given chunks final painted
      (coming (early ++ (program, Turn) ∷ late)) r.arrives.rest r.arrives.order)

  held : Leads t program
  held = All-head (λ met. Leads t met.0) (program, Turn) late (all_first (λ met. Leads t met.0) early ((program, Turn) ∷ late) r.held)

  turned : run_in m (early ++ (program, Turn) ∷ []) ≡ turn before
  turned = run_in-append m early ((program, Turn) ∷ [])

  closes_by : (now : State) (bound : ℕ) → ReachedWith t (Leads t) (StandsOn t) (along_on t) field r.uses given chunks final seen bound now →
      Leads t now.program → is_end t.end now Turn ≡ true →
      Closes t given chunks final seen now
  closes_by now bound (inl opening) held ended =
      let idle = (end-AtEnd t.end now ended).idle in
      let waits = opening.waits in
      cc
  closes_by now bound (inr within) held ended = end-Closes t given chunks final seen bound now within held ended

  closed : is_end t.end before Turn ≡ true → Closes t given chunks final seen before
  closed ended = closes_by before ran.next ran.reached held ended

  -- nothing that is known of the state speaks of its interrupts, so the turn that begins with none is known as well
  abbrev acted : State
  acted = with_interrupts 0 before

  orderly : IsOrderly acted
  orderly = let known = ran.orderly in record { job = known.job; queues = known.queues; triggered = known.triggered }

  quiet : sets_fdsr before ≡ false
  quiet =
      ⊎_elim
      (λ ended. let c = closes_by acted ran.next ran.reached held ended in ap (has fdsr) c.interrupts ∙ closing_quiet t.closing 0)
      (λ none. let reaches = turn-Reaches t (Leads t) (StandsOn t)
      (along_on t) field r.uses given chunks final seen ran.next acted orderly held ran.reached none in reaches.quiet)
      (cases_Bool (is_end t.end before Turn))

-- ---- the laws

paints_settles : (t : Trail) (field : Queue → List Token) (final : ℕ → ℕ) (m : State) → PaintsField t.body field m.memory final →
    Settles (chunks_of m.memory) final m.memory (body_stores t.body field)
paints_settles t field final m h = record { same = refl; within = h.within; agree = h.agree; settled = h.others }

pub trail_shows_picture : TrailShowsPicture
trail_shows_picture t field final m early late program r paints unended ended address =
    let c =
    closed t field m early late program r unended (PaintsField t.body field m.memory final) (chunks_of m.memory) final
    (λ known. paints_settles t field final m known) ended in
    ap (λ (m' : State). byte_at m'.memory address)
    (turned t field m early late program r unended (PaintsField t.body field m.memory final) (chunks_of m.memory) final
    (λ known. paints_settles t field final m known))
    ∙ ap (λ memory. byte_at memory address) c.memory ∙ c.settled paints address

pub trail_shows_no_fault : TrailShowsNoFault
trail_shows_no_fault t field m early late program r unended =
    quiet t field m early late program r unended ⊥ [] (λ _. 0) (λ none. absurd none)

pub trail_ends_with_closing : TrailEndsWithClosing
trail_ends_with_closing t field m early late program r unended ended =
    let c = closed t field m early late program r unended ⊥ [] (λ _. 0) (λ none. absurd none) ended in
    ap (λ (m' : State). m'.interrupts) (turned t field m early late program r unended ⊥ [] (λ _. 0) (λ none. absurd none)) ∙ c.interrupts

-- ---- the bound

-- a list that is as long as another's beginning begins with it
pub beginning : (a b c d : List Entry) → a ++ b ≡ c ++ d → length c ≤ length a → a ≡ c ++ drop (length c) a
beginning a b c d e le =
    let first : take (length c) a ≡ c = sym (take-append-le (length c) a b le) ∙ ap (take (length c)) e ∙ take_at c d (length c) refl in
    sym (take-append-drop (length c) a) ∙ ap (λ (first : List Entry). first ++ drop (length c) a) first

module _ (t : Trail) (field : Queue → List Token) (m : State) (early late : List Met) (r : TrailReceives t field m (early ++ late))
    (come : (q : Queue) →
    entries_of r.arrives.before r.arrives.entries q ≤ length (queue_state q m.queues).entries + length (coming early q)) where
  -- the field is among what is there and comes early
  there : (q : Queue) → (queue_state q m.queues).entries ++ coming (early ++ []) q
      ≡ r.arrives.before q ++ (r.arrives.entries q
      ++ drop (length (r.arrives.before q ++ r.arrives.entries q)) ((queue_state q m.queues).entries ++ coming early q))
  there q =
      let held = (queue_state q m.queues).entries in
      let before = r.arrives.before q in
      let entries = r.arrives.entries q in
      let all : (held ++ coming early q) ++ coming late q ≡ (before ++ entries) ++ r.arrives.rest q =
      append_assoc held (coming early q) (coming late q) ∙ sym (ap (λ (more : List Entry). held ++ more) (coming-append early late q))
      ∙ r.arrives.order q ∙ sym (append_assoc before entries (r.arrives.rest q)) in
      let known = come q in
      let long : length (before ++ entries) ≤ length (held ++ coming early q) =
      omega (arith, length-append before entries, length-append held (coming early q)) in
      ap (λ (steps : List Met). held ++ coming steps q) (append-nil early)
      ∙ beginning (held ++ coming early q) (coming late q) (before ++ entries) (r.arrives.rest q) all long
      ∙ append_assoc before entries (drop (length (before ++ entries)) (held ++ coming early q))

  in_time : has_end t.end m (early ++ late) ≡ false →
      turns_in late ≤ 5 * suc (length t.body) + 1 + over_queues (entries_of r.arrives.before r.arrives.entries)
  in_time unended =
      let parts = end-append t.end m early late unended in
      let first : Ran t (Leads t) (StandsOn t) (along_on t) field r.uses ⊥ [] (λ _. 0) [] late
      (5 * suc (length t.body) + 1 + over_queues (entries_of r.arrives.before r.arrives.entries)) (run_in m early) =
      runs t (Leads t) (StandsOn t) (along_on t) field r.uses ⊥ [] (λ _. 0) early late []
      (5 * suc (length t.body) + 1 + over_queues (entries_of r.arrives.before r.arrives.entries)) m r.orderly r.made r.held
      r.arrives.kept parts.0
      (starts t field m (early ++ late) r ⊥ [] (λ _. 0) (λ none. absurd none) (coming (early ++ []))
      (λ q. drop (length (r.arrives.before q ++ r.arrives.entries q)) ((queue_state q m.queues).entries ++ coming early q)) there) in
      let last =
      counted_runs t (Leads t) (StandsOn t) (along_on t) field r.uses ⊥ [] (λ _. 0) late first.next
      (run_in m early) first.orderly first.made (all_first (λ met. Leads t met.0) early late r.held) first.kept parts.1 first.reached in
      let first_most = first.most in
      let last_most = last.most in
      omega arith

pub trail_is_bounded : TrailIsBounded
trail_is_bounded t field m early late r come many =
    true_from_ne_false (has_end t.end m (early ++ late))
    (λ unended. let most = in_time t field m early late r come unended in omega arith)
