-- Turns of the machine while a data instruction runs.
use Rattle.std.proofs.Common.{◌≡◌, ℕ, zero, suc, ◌+◌, ◌*◌, ◌<◌, ◌≤◌, Bool, true, false, not, ◌&&◌, ◌||◌, ◌==◌, if◌then◌else◌, nat_le, List}
use Rattle.std.proofs.Common.{[], ◌∷◌, ◌++◌, length, Option, Some, None, refl, sym, ap}
use Rattle.std.proofs.Common.{subst, ◌∙◌, arith, ⊎_elim, append-nil, eqb-true, leb-true, ne_eqb}
use Rattle.std.specs.List.{list_any}
use Rattle.std.proofs.lemmas.Bool.{or_right, or_cases, and_parts, and_from, not_from_false, not-true, cond-false, both_ways}
use Rattle.risc_word.specs.declared.Instr.{Instr}
use Rattle.sync_status.specs.Statuses.{kind_of}
use Rattle.fifo_model.specs.declared.Entry.{Entry}
use Rattle.fifo_model.specs.declared.Queue.{Queue}
use Rattle.fifo_model.specs.declared.Queue.TheVariants.{One, Two, Three}
use Rattle.fifo_model.specs.Queues.{QueueState, first, front, queue_state, is_ready, wakes}
use Rattle.irq_status.specs.Register.{fdsr, has}
use Rattle.irq_status.proofs.Laws.{fdsr-applied}
use Rattle.page_table.specs.Blocks.{Block}
use Rattle.machine_model.specs.declared.Demands.{Demands}
use Rattle.machine_model.specs.declared.Job.{Job}
use Rattle.machine_model.specs.declared.Job.TheVariants.{Idle, Waiting, Running}
use Rattle.risc_word.specs.Parts.{instr_ctl}
use Rattle.machine_model.specs.States.{State}
use Rattle.machine_model.specs.Turns.{Store, demand_on, judged, verdict_at, served, apply_in, apply, burst, burst_of, is_served}
use Rattle.machine_model.specs.Turns.{lowest_served, is_done, retired}
use Rattle.machine_model.proofs.BeforeTurns.{three_parts}
use Rattle.field_law.specs.Fields.{Token}
use Rattle.field_law.specs.Sections.{asks}
use Rattle.field_law.specs.Arrivals.{over_queues}
use Rattle.field_law.proofs.Lines.{has_waking}
use Rattle.field_law.proofs.Asked.{outlook_done, outlook_wakes}
use Rattle.field_law.proofs.Within.{WithinJob, IsWithin, IsMade, Fewer, GoesOn, goes_refl, goes_trans, judged-Within}

pub some_rest : (n : ℕ) → (n == 0) ≡ false → 0 < n
some_rest zero h = cc
some_rest (suc n) h = omega arith

-- ---- which queue is served

pub lowest_some : (test : Queue → Bool) (a b c : Bool) → test One ≡ a → test Two ≡ b → test Three ≡ c → (q : Queue) →
    (if a then Some One else (if b then Some Two else (if c then Some Three else None))) ≡ Some q → test q ≡ true
lowest_some test true b c ea eb ec One h = ea
lowest_some test true b c ea eb ec Two h = cc
lowest_some test true b c ea eb ec Three h = cc
lowest_some test false true c ea eb ec One h = cc
lowest_some test false true c ea eb ec Two h = eb
lowest_some test false true c ea eb ec Three h = cc
lowest_some test false false true ea eb ec One h = cc
lowest_some test false false true ea eb ec Two h = cc
lowest_some test false false true ea eb ec Three h = ec
lowest_some test false false false ea eb ec q h = cc

pub lowest_none : (test : Queue → Bool) (a b c : Bool) → test One ≡ a → test Two ≡ b → test Three ≡ c → (q : Queue) →
    (if a then Some One else (if b then Some Two else (if c then Some Three else None))) ≡ None → test q ≡ false
lowest_none test true b c ea eb ec q h = cc
lowest_none test false true c ea eb ec q h = cc
lowest_none test false false true ea eb ec q h = cc
lowest_none test false false false ea eb ec One h = ea
lowest_none test false false false ea eb ec Two h = eb
lowest_none test false false false ea eb ec Three h = ec

pub served_some : (ds : Demands) (m : State) (q : Queue) → lowest_served ds m ≡ Some q → is_served q ds m ≡ true
served_some ds m q h =
    lowest_some (λ q. is_served q ds m) (is_served One ds m) (is_served Two ds m) (is_served Three ds m) refl refl refl q h

pub served_none : (ds : Demands) (m : State) (q : Queue) → lowest_served ds m ≡ None → is_served q ds m ≡ false
served_none ds m q h =
    lowest_none (λ q. is_served q ds m) (is_served One ds m) (is_served Two ds m) (is_served Three ds m) refl refl refl q h

undone_three : (a b c : Bool) → (a && b && c) ≡ false → (q : Queue) × (elim q as (λ _. Bool) [ One ↦ a | Two ↦ b | Three ↦ c ] ≡ false)
undone_three false b c h = (One, refl)
undone_three true false c h = (Two, refl)
undone_three true true false h = (Three, refl)
undone_three true true true h = cc

-- nothing is asked any more, or something of some queue
pub done_rest : (ds : Demands) → is_done ds ≡ true → (q : Queue) → (demand_on q ds).rest ≡ 0
done_rest ds h One = eqb-true _ _ (three_parts (ds.one.rest == 0) (ds.two.rest == 0) (ds.three.rest == 0) h).0
done_rest ds h Two = eqb-true _ _ (three_parts (ds.one.rest == 0) (ds.two.rest == 0) (ds.three.rest == 0) h).1
done_rest ds h Three = eqb-true _ _ (three_parts (ds.one.rest == 0) (ds.two.rest == 0) (ds.three.rest == 0) h).2

asked_at : (ds : Demands) (q : Queue) →
    elim q as (λ _. Bool) [ One ↦ ds.one.rest == 0 | Two ↦ ds.two.rest == 0 | Three ↦ ds.three.rest == 0 ] ≡ false →
    0 < (demand_on q ds).rest
asked_at ds One h = some_rest ds.one.rest h
asked_at ds Two h = some_rest ds.two.rest h
asked_at ds Three h = some_rest ds.three.rest h

pub undone_rest : (ds : Demands) → is_done ds ≡ false → (q : Queue) × (0 < (demand_on q ds).rest)
undone_rest ds h =
    let found = undone_three (ds.one.rest == 0) (ds.two.rest == 0) (ds.three.rest == 0) h in
    (found.0, asked_at ds found.0 found.1)

ready_front : (trigger : ℕ) (entries : List Entry) → 0 < trigger →
    (nat_le trigger (length entries) || list_any (λ entry. wakes (kind_of entry.status)) entries) ≡ true →
    (entry : Entry) × (first entries ≡ Some entry)
ready_front zero [] some h = absurd (omega arith)
ready_front (suc trigger) [] some h =
    ⊎_elim (λ le. let none = leb-true (suc trigger) 0 le in absurd (omega arith)) (λ any. cc) (or_cases (nat_le (suc trigger) 0) false h)
ready_front trigger (entry ∷ entries) some h = (entry, refl)

module _ (Ends : List ℕ → List Token → Type 0) (Rests : List Entry → Type 0) (Stands : ℕ → List Instr → Type 0)
    (Comes : List Block → (Queue → List Store) → Type 0) (later : Queue → List Entry) where
  -- what a turn leaves: within, by less once all entries are there, and FDSR as it was
  pub record Turned (bound interrupts : ℕ) (m : State) : Type 0 where
    pub next : ℕ
    pub within : IsWithin Ends Rests Stands Comes later next m
    pub most : next ≤ bound
    pub less : ((q : Queue) → later q ≡ []) → next < bound
    pub quiet : has fdsr m.interrupts ≡ has fdsr interrupts

  module _ (comes_made : IsMade Comes) where
    -- ---- a burst

    asked : (bound : ℕ) (q : Queue) (instr : Instr) (ds : Demands) (entry : Entry) (m after : State) (none : Bool) →
        WithinJob Ends Rests Stands Comes later bound (Running instr ds) m →
        front (queue_state q m.queues) ≡ Some entry → ((demand_on q ds).rest == 0) ≡ none →
        (if none then None else Some (judged (verdict_at q ds entry m) q instr ds entry m)) ≡ Some after →
        Fewer Ends Rests Stands Comes later bound m.interrupts (Running instr ds) after
    asked bound q instr ds entry m after true h f n e = cc
    asked bound q instr ds entry m after false h f n e =
        let same : judged (verdict_at q ds entry m) q instr ds entry m ≡ after = cc in
        subst (λ (m' : State). Fewer Ends Rests Stands Comes later bound m.interrupts (Running instr ds) m') same
        (judged-Within Ends Rests Stands Comes later comes_made bound q instr ds entry m h f (some_rest (demand_on q ds).rest n))

    served_within : (bound : ℕ) (q : Queue) (instr : Instr) (ds : Demands) (m after : State) (top : Option Entry) →
        WithinJob Ends Rests Stands Comes later bound (Running instr ds) m →
        front (queue_state q m.queues) ≡ top → served top q instr ds m ≡ Some after →
        Fewer Ends Rests Stands Comes later bound m.interrupts (Running instr ds) after
    served_within bound q instr ds m after None h f e = cc
    served_within bound q instr ds m after (Some entry) h f e = asked bound q instr ds entry m after _ h f refl e

    applied_within : (bound : ℕ) (job : Job) (q : Queue) (m after : State) → WithinJob Ends Rests Stands Comes later bound job m →
        apply_in job q m ≡ Some after →
        Fewer Ends Rests Stands Comes later bound m.interrupts job after
    applied_within bound Idle q m after h e = cc
    applied_within bound (Waiting ctl resync code) q m after h e = cc
    applied_within bound (Running instr ds) q m after h e = served_within bound q instr ds m after _ h refl e

    -- after a burst: within, by no more
    pub record NoMore (bound interrupts : ℕ) (job : Job) (m : State) : Type 0 where
      pub next : ℕ
      pub within : IsWithin Ends Rests Stands Comes later next m
      pub most : next ≤ bound
      pub same : m.interrupts ≡ interrupts
      pub goes_on : GoesOn job m.job

    widened : (bound interrupts : ℕ) (job : Job) (m after : State) (f : Fewer Ends Rests Stands Comes later bound interrupts job m) →
        NoMore f.next m.interrupts m.job after → Fewer Ends Rests Stands Comes later bound interrupts job after
    widened bound interrupts job m after f n =
        let less = f.less in
        let most = n.most in
        record {
          next = n.next;
          within = n.within;
          less = omega arith;
          same = n.same ∙ f.same;
          goes_on = goes_trans job m.job after.job f.goes_on n.goes_on;
        }

    fewer_no_more : (bound interrupts : ℕ) (job : Job) (m : State) → Fewer Ends Rests Stands Comes later bound interrupts job m →
        NoMore bound interrupts job m
    fewer_no_more bound interrupts job m f =
        let less = f.less in
        record { next = f.next; within = f.within; most = omega arith; same = f.same; goes_on = f.goes_on }

    continued : (count bound : ℕ) (q : Queue) (m : State) (next : Option State) → IsWithin Ends Rests Stands Comes later bound m →
        ((after : State) → next ≡ Some after → Fewer Ends Rests Stands Comes later bound m.interrupts m.job (burst count q after)) →
        NoMore bound m.interrupts m.job (elim next as (λ _. State) [ None ↦ m | Some after ↦ burst count q after ])
    continued count bound q m None h go = record { next = bound; within = h; most = omega arith; same = refl; goes_on = goes_refl m.job }
    continued count bound q m (Some after) h go = fewer_no_more bound m.interrupts m.job (burst count q after) (go after refl)

    burst_within : (count bound : ℕ) (q : Queue) (m : State) → IsWithin Ends Rests Stands Comes later bound m →
        NoMore bound m.interrupts m.job (burst count q m)
    burst_within zero bound q m h = record { next = bound; within = h; most = omega arith; same = refl; goes_on = goes_refl m.job }
    burst_within (suc count) bound q m h =
        continued count bound q m (apply q m) h
        (λ after e.
        let f = applied_within bound m.job q m after h e in
        widened bound m.interrupts m.job after (burst count q after) f (burst_within count f.next q after f.within))

    -- where the queue has a front of which something is asked the first application is made
    first_application : (instr : Instr) (ds : Demands) (entry : Entry) (q : Queue) (m : State) (top : Option Entry) →
        ((demand_on q ds).rest == 0) ≡ false →
        top ≡ Some entry → served top q instr ds m ≡ Some (judged (verdict_at q ds entry m) q instr ds entry m)
    first_application instr ds entry q m top r t =
        ap (λ (top : Option Entry). served top q instr ds m) t
        ∙ cond-false ((demand_on q ds).rest == 0) None (Some (judged (verdict_at q ds entry m) q instr ds entry m)) r

    burst_first : (count bound : ℕ) (instr : Instr) (ds : Demands) (entry : Entry) (q : Queue) (m : State) → 0 < count →
        m.job ≡ Running instr ds →
        IsWithin Ends Rests Stands Comes later bound m → front (queue_state q m.queues) ≡ Some entry →
        ((demand_on q ds).rest == 0) ≡ false →
        Fewer Ends Rests Stands Comes later bound m.interrupts m.job (burst count q m)
    burst_first zero bound instr ds entry q m some j h f r = absurd (omega arith)
    burst_first (suc count) bound instr ds entry q m some j h f r =
        let after : State = judged (verdict_at q ds entry m) q instr ds entry m in
        let e : apply q m ≡ Some after =
        ap (λ (job : Job). apply_in job q m) j ∙ first_application instr ds entry q m (front (queue_state q m.queues)) r f in
        let first = applied_within bound m.job q m after h e in
        let same : burst (suc count) q m ≡ burst count q after =
        ap (λ (next : Option State). elim next as (λ _. State) [ None ↦ m | Some after ↦ burst count q after ]) e in
        subst (λ (m' : State). Fewer Ends Rests Stands Comes later bound m.interrupts m.job m') (sym same)
        (widened bound m.interrupts m.job after (burst count q after) first (burst_within count first.next q after first.within))

    -- ---- a turn while an instruction runs

    module _ (bound : ℕ) (instr : Instr) (ds : Demands) (m : State) (triggered : 0 < m.trigger) (j : m.job ≡ Running instr ds)
        (h : IsWithin Ends Rests Stands Comes later bound m) where
      runs : WithinJob Ends Rests Stands Comes later bound (Running instr ds) m
      runs = subst (λ (job : Job). WithinJob Ends Rests Stands Comes later bound job m) j h

      -- a queue with all of its line is ready
      ready : (q : Queue) → 0 < (demand_on q ds).rest → later q ≡ [] → is_served q ds m ≡ true
      ready q some none =
          let held : QueueState = queue_state q m.queues in
          let wakes =
          outlook_wakes Ends Rests (demand_on q ds) (asks q runs.body) (runs.stores q) (runs.left q) held.taken
          (held.entries ++ later q) some (runs.outlook q) in
          let here : has_waking held.entries ≡ true =
          sym (ap (λ (entries : List Entry). has_waking (held.entries ++ entries)) none ∙ ap has_waking (append-nil held.entries))
          ∙ wakes in
          and_from (not ((demand_on q ds).rest == 0)) (is_ready m.trigger held)
          (not_from_false ((demand_on q ds).rest == 0) (ne_eqb (demand_on q ds).rest 0 (λ none. omega arith)))
          (or_right (nat_le m.trigger (length held.entries)) (has_waking held.entries) here)

      serves : (found : Option Queue) → lowest_served ds m ≡ found → is_done ds ≡ false →
          Turned bound m.interrupts (burst_of found m) × GoesOn m.job (burst_of found m).job
      serves None e d = (
        record {
          next = bound;
          within = h;
          most = omega arith;
          less =
              λ none. let asked = undone_rest ds d in
              absurd (both_ways (is_served asked.0 ds m) (served_none ds m asked.0 e) (ready asked.0 asked.1 (none asked.0)));
          quiet = refl;
        },
        goes_refl m.job,
      )
      serves (Some q) e d =
          let parts = and_parts (not ((demand_on q ds).rest == 0)) (is_ready m.trigger (queue_state q m.queues)) (served_some ds m q e) in
          let there = ready_front m.trigger (queue_state q m.queues).entries triggered parts.1 in
          let f = burst_first m.trigger bound instr ds there.0 q m triggered j h there.1 (not-true ((demand_on q ds).rest == 0) parts.0) in
          let less = f.less in
          (record { next = f.next; within = f.within; most = omega arith; less = λ _. less; quiet = ap (has fdsr) f.same }, f.goes_on)

      pub serves-Turned : (found : Option Queue) → lowest_served ds m ≡ found → is_done ds ≡ false →
          Turned bound m.interrupts (burst_of found m)
      serves-Turned found e d = (serves found e d).0

      -- the instruction that runs goes on
      pub serves-GoesOn : (found : Option Queue) → lowest_served ds m ≡ found → is_done ds ≡ false → GoesOn m.job (burst_of found m).job
      serves-GoesOn found e d = (serves found e d).1

-- an instruction retires; its user states where the machine is then
module _ (Ends : List ℕ → List Token → Type 0) (Rests : List Entry → Type 0) (Stands Stands' : ℕ → List Instr → Type 0)
    (Comes : List Block → (Queue → List Store) → Type 0) (later : Queue → List Entry) (bound : ℕ)
    (instr : Instr) (ds : Demands) (m : State) (j : m.job ≡ Running instr ds) (h : IsWithin Ends Rests Stands Comes later bound m)
    (stands : (body : List Instr) → Stands m.pc body → Stands' m.pc body) (done : is_done ds ≡ true) where
  pub retires-Turned : Turned Ends Rests Stands' Comes later bound m.interrupts (retired instr m)
  retires-Turned =
      let runs : WithinJob Ends Rests Stands Comes later bound (Running instr ds) m =
      subst (λ (job : Job). WithinJob Ends Rests Stands Comes later bound job m) j h in
      let bounded = runs.bounded in
      record {
        next = 5 * suc (length runs.body) + 0 + over_queues runs.left;
        within =
            record {
              on = runs.on;
              unskipped = runs.unskipped;
              body = runs.body;
              stands = stands runs.body runs.stands;
              plain = tt;
              stores = runs.stores;
              left = runs.left;
              outlook =
                  λ q.
                  outlook_done Ends Rests (demand_on q ds) (asks q runs.body) (runs.stores q) (runs.left q) (queue_state q m.queues).taken
                  ((queue_state q m.queues).entries ++ later q) (done_rest ds done q) (runs.outlook q);
              comes = runs.comes;
              bounded = omega arith;
            };
        most = omega arith;
        less = λ _. omega arith;
        quiet = fdsr-applied (instr_ctl instr) m.interrupts;
      }
