-- Within a section memory keeps the bytes that the section's instructions took.
use Rattle.std.proofs.Common.{◌≡◌, ℕ, zero, suc, ◌+◌, ◌-◌, ◌*◌, ◌≤◌, Bool, true, false, ◌==◌, List, [], ◌∷◌, ◌++◌, length, Option, Some}
use Rattle.std.proofs.Common.{None, option_map, if◌then◌else◌, refl, sym, ap, ◌∙◌, subst, arith}
use Rattle.std.proofs.lemmas.Bool.{cond-false, ne_eqb, or_from}
use Rattle.risc_word.specs.declared.Instr.{Instr}
use Rattle.risc_word.specs.declared.Instr.TheVariants.{Write, Skip, WriteC, Jump, Sync, Write123, Skip123, Write1S23}
use Rattle.risc_word.specs.Words.{encoded}
use Rattle.sync_status.specs.declared.Verdict.{Verdict}
use Rattle.sync_status.specs.declared.Verdict.TheVariants.{Take, Discard, Broken, Missing}
use Rattle.fifo_model.specs.declared.Entry.{Entry}
use Rattle.fifo_model.specs.declared.Queue.{Queue}
use Rattle.fifo_model.specs.Queues.{front, queue_state}
use Rattle.page_table.specs.Blocks.{Block, chunks_of}
use Rattle.pixel_layout.specs.declared.Parity.{Parity}
use Rattle.picture_model.proofs.Each.{Each, each_append, each_only}
use Rattle.machine_model.specs.declared.Cause.{Cause}
use Rattle.machine_model.specs.declared.Demand.{Demand}
use Rattle.machine_model.specs.declared.Demands.{Demands}
use Rattle.machine_model.specs.declared.Job.{Job}
use Rattle.machine_model.specs.declared.Job.TheVariants.{Idle, Waiting, Running}
use Rattle.machine_model.specs.declared.Skipping.{Skipping}
use Rattle.machine_model.specs.declared.Skipping.TheVariants.{Nothing, ToEol, ToSync}
use Rattle.machine_model.specs.Paths.{demands_of}
use Rattle.risc_word.specs.Parts.{instr_off}
use Rattle.machine_model.specs.Seen.{Application, address_before, application}
use Rattle.machine_model.specs.States.{State}
use Rattle.machine_model.specs.Turns.{apply, apply_in, begun_with, burst, counted, data_fetched, demand_on, ended, instr_fetched}
use Rattle.machine_model.specs.Turns.{is_cut_short, judged, served, took, verdict_at}
use Rattle.capture_desc.specs.declared.desc.Desc.{Desc}
use Rattle.picture_model.specs.Described.{describes}
use Rattle.field_law.specs.Sections.{IsPlain}
use Rattle.damage_model.specs.Marks.{is_among}
use Rattle.damage_model.specs.Takings.{Taking, burst_takings, left, taking_by, takings_of}
use Rattle.damage_model.proofs.Held.{IsHeld}
use Rattle.damage_model.proofs.Pieces.{pieces_apart, pieces_granted}
use Rattle.damage_model.proofs.PlacedTakes.{Placed, address_on, count_on}
use Rattle.damage_model.proofs.StoredTakes.{taken_bytes}
use Rattle.damage_law.proofs.PlacedLines.{PieceThere, begin_of, words_before}
use Rattle.damage_law.proofs.Sections.{Past, TakenBelow, none_yet, taken_more, takes_in}

-- ---- what a burst keeps

pub burst_ats : (q : Queue) (at n place : ℕ) (m : State) → Each (λ t. t.at ≡ at) (burst_takings n q at place m)
burst_ats q at zero place m = tt
burst_ats q at (suc n) place m =
    each_append (λ t. t.at ≡ at) (takings_of at place (application q m))
    (elim (apply q m) as (λ _. List Taking) [ None ↦ [] | Some after ↦ burst_takings n q at (place + left q m after) after ])
    (made_ats (application q m)) (next_ats (apply q m) (λ after. burst_ats q at n (place + left q m after) after))
  where
    by_verdict : (v : Verdict) (a : Application) → Each (λ t. t.at ≡ at) (taking_by v at place a)
    by_verdict (Take count) a = (refl, tt)
    by_verdict Discard a = tt
    by_verdict Broken a = tt
    by_verdict Missing a = tt

    made_ats : (made : List Application) → Each (λ t. t.at ≡ at) (takings_of at place made)
    made_ats [] = tt
    made_ats (a ∷ made) = each_append (λ t. t.at ≡ at) _ (takings_of at place made) (by_verdict _ a) (made_ats made)

    next_ats : (next : Option State) → ((after : State) → Each (λ t. t.at ≡ at) (burst_takings n q at (place + left q m after) after)) →
        Each (λ t. t.at ≡ at)
        (elim next as (λ _. List Taking) [ None ↦ [] | Some after ↦ burst_takings n q at (place + left q m after) after ])
    next_ats None on = tt
    next_ats (Some after) on = on after

judged_pc : (v : Verdict) (q : Queue) (instr : Instr) (ds : Demands) (entry : Entry) (m : State) → (judged v q instr ds entry m).pc ≡ m.pc
judged_pc Broken q instr ds entry m = refl
judged_pc Missing q instr ds entry m = refl
judged_pc Discard q instr ds entry m = refl
judged_pc (Take count) q instr ds entry m = by_cut (is_cut_short entry (queue_state q m.queues).taken count (demand_on q ds).rest)
  where
    by_cut : (cut : Bool) → (ended cut instr (took q count instr ds entry m)).pc ≡ m.pc
    by_cut true = refl
    by_cut false = refl

abbrev PcAfter : State → Option State → Type 0
PcAfter m None = Unit {0}
PcAfter m (Some after) = after.pc ≡ m.pc

served_pc : (top : Option Entry) (q : Queue) (instr : Instr) (ds : Demands) (m : State) → PcAfter m (served top q instr ds m)
served_pc None q instr ds m = tt
served_pc (Some entry) q instr ds m = by_rest ((demand_on q ds).rest == 0)
  where
    by_rest : (none : Bool) → PcAfter m (if none then None else Some (judged (verdict_at q ds entry m) q instr ds entry m))
    by_rest true = tt
    by_rest false = judged_pc (verdict_at q ds entry m) q instr ds entry m

applied_pc : (job : Job) (q : Queue) (m : State) → PcAfter m (apply_in job q m)
applied_pc Idle q m = tt
applied_pc (Waiting ctl resync code) q m = tt
applied_pc (Running instr ds) q m = served_pc (front (queue_state q m.queues)) q instr ds m

pub burst_pc : (n : ℕ) (q : Queue) (m : State) → (burst n q m).pc ≡ m.pc
burst_pc zero q m = refl
burst_pc (suc n) q m = by_next (apply q m) (applied_pc m.job q m) (burst_pc n q)
  where
    by_next : (next : Option State) → PcAfter m next → ((after : State) → (burst n q after).pc ≡ after.pc) →
        (elim next as (λ _. State) [ None ↦ m | Some after ↦ burst n q after ]).pc ≡ m.pc
    by_next None same on = refl
    by_next (Some after) same on = on after ∙ same

pub plain_off : (i : Instr) → IsPlain i → instr_off i ≡ 0
plain_off (Write ctl ends off count addr) plain = plain
plain_off (Skip ctl ends count) plain = refl
plain_off (WriteC ctl ends off count) plain = absurd plain
plain_off (Jump ctl to) plain = refl
plain_off (Sync ctl resync code) plain = refl
plain_off (Write123 ctl ends off counts addrs) plain = plain
plain_off (Skip123 ctl ends counts) plain = refl
plain_off (Write1S23 ctl ends off counts addr) plain = plain

-- ---- takings by their addresses

abbrev pub Sorted : List Taking → Type 0
Sorted [] = Unit {0}
Sorted (t ∷ rest) = Each (λ u. t.at ≤ u.at) rest × Sorted rest

sorted_at : (here : ℕ) (new : List Taking) → Each (λ t. t.at ≡ here) new → Sorted new
sorted_at here [] at = tt
sorted_at here (t ∷ new) at =
    (each_only (λ u. u.at ≡ here) (λ u. t.at ≤ u.at) new (λ u same. let first = at.0 in omega arith) at.1, sorted_at here new at.1)

pub sorted_more : (here : ℕ) (ts new : List Taking) → Sorted ts → TakenBelow (here + 1) ts → Each (λ t. t.at ≡ here) new →
    Sorted (ts ++ new)
sorted_more here [] new sorted below at = sorted_at here new at
sorted_more here (t ∷ ts) new sorted below at = (
  each_append (λ u. t.at ≤ u.at) ts new sorted.0
      (each_only (λ u. u.at ≡ here) (λ u. t.at ≤ u.at) new (λ u same. let low = below.0 in omega arith) at),
  sorted_more here ts new sorted.1 below.1 at,
)

none_at : (a here : ℕ) (new : List Taking) → (a ≡ here → ⊥) → Each (λ t. t.at ≡ here) new → takes_in (a ∷ []) new ≡ []
none_at a here [] different at = refl
none_at a here (t ∷ new) different at =
    cond-false (is_among (a ∷ []) t.at) (t ∷ takes_in (a ∷ []) new) (takes_in (a ∷ []) new)
    (or_from (t.at == a) false (ne_eqb t.at a (λ same. let first = at.0 in different (omega arith))) refl)
    ∙ none_at a here new different at.1

pub takes_apart : (a here : ℕ) (ts new : List Taking) → (a ≡ here → ⊥) → Each (λ t. t.at ≡ here) new →
    takes_in (a ∷ []) (ts ++ new) ≡ takes_in (a ∷ []) ts
takes_apart a here [] new different at = none_at a here new different at
takes_apart a here (t ∷ ts) new different at = by_test (is_among (a ∷ []) t.at) (takes_apart a here ts new different at)
  where
    by_test : (b : Bool) → takes_in (a ∷ []) (ts ++ new) ≡ takes_in (a ∷ []) ts →
        (if b then t ∷ takes_in (a ∷ []) (ts ++ new) else takes_in (a ∷ []) (ts ++ new))
        ≡ (if b then t ∷ takes_in (a ∷ []) ts else takes_in (a ∷ []) ts)
    by_test true same = ap (λ (l : List Taking). t ∷ l) same
    by_test false same = same

moved_nowhere : (address : Option ℕ) → address ≡ option_map (λ s. s + 0) address
moved_nowhere None = refl
moved_nowhere (Some at) = ap (λ (a : ℕ). Some a) (omega arith)

-- ---- what is known of memory

module _ (d : Desc) (held : IsHeld d) (field : Parity) (described : describes d.fields field ≡ true) where
  abbrev pub IsIn : ℕ → Instr → Type 0
  IsIn a i = PieceThere d held field described a i

  abbrev pub had_of : Past → ℕ → Queue → List ℕ
  had_of past a q = taken_bytes (takes_in (a ∷ []) (past.takes q))

  abbrev pub PlacedIn : List Block → (ℕ → Queue → List ℕ) → Type 0
  PlacedIn memory had =
      Placed IsIn held.program.grants
      (pieces_apart d held field described (begin_of d held field described) (words_before d held field described))
      (pieces_granted d held field described (begin_of d held field described) (words_before d held field described)) memory had

  -- what is still asked by the instruction that runs, and from where on it goes on to write
  abbrev pub RunsFrom : ℕ → Instr → Demands → Past → Queue → Type 0
  RunsFrom at runs ds past q =
      ((demand_on q ds).rest + length (had_of past at q) ≡ count_on q runs)
      × ((demand_on q ds).address ≡ option_map (λ s. s + length (had_of past at q)) (address_on q runs))

  abbrev pub JobHas : ℕ → Job → Past → Type 0
  JobHas pc Idle past = (q : Queue) → TakenBelow pc (past.takes q)
  JobHas pc (Waiting ctl resync code) past = (q : Queue) → TakenBelow pc (past.takes q)
  JobHas pc (Running runs ds) past = (q : Queue) → RunsFrom (address_before pc runs) runs ds past q

  pub record KeepsBytes (m : State) (past : Past) : Type 0 where
    pub chunks : chunks_of m.memory ≡ held.program.grants
    pub placed : PlacedIn m.memory (had_of past)
    pub full : (a : ℕ) (i : Instr) (q : Queue) → IsIn a i → is_among past.retired a ≡ true → length (had_of past a q) ≡ count_on q i
    pub sorted : (q : Queue) → Sorted (past.takes q)
    pub job : JobHas m.pc m.job past

  pub bytes_with : (m after : State) (past : Past) → after.memory ≡ m.memory → JobHas after.pc after.job past → KeepsBytes m past →
      KeepsBytes after past
  bytes_with m after past memory job k =
      record {
        chunks = ap chunks_of memory ∙ k.chunks;
        placed = subst (λ (blocks : List Block). PlacedIn blocks (had_of past)) (sym memory) k.placed;
        full = k.full;
        sorted = k.sorted;
        job = job;
      }

  -- ---- an instruction is fetched

  module _ (m : State) (past : Past) (idle : m.job ≡ Idle) (below : (q : Queue) → TakenBelow m.pc (past.takes q)) where
    further : (n : ℕ) (q : Queue) → TakenBelow (m.pc + n) (past.takes q)
    further n q = taken_more m.pc (m.pc + n) (past.takes q) (omega arith) (below q)

    begun_has : (cause : Option Cause) (target : Option ℕ) (i : Instr) →
        ((q : Queue) → demand_on q (demands_of i target) ≡ demand_on q (demands_of i None)) →
        JobHas (begun_with cause i (length (encoded i)) target (counted m)).pc
        (begun_with cause i (length (encoded i)) target (counted m)).job past
    begun_has (Some cause) target i same = subst (λ (job : Job). JobHas m.pc job past) (sym idle) below
    begun_has None target i same =
        λ q.
        let at : m.pc + 4 * length (encoded i) - 4 * length (encoded i) ≡ m.pc = omega arith in
        let none : had_of past m.pc q ≡ [] = ap taken_bytes (none_yet m.pc (m.pc ∷ []) (past.takes q) (below q) (omega arith, tt)) in
        let empty = ap (λ (bytes : List ℕ). length bytes) none in
        let rest = ap (λ (x : Demand). x.rest) (same q) in
        subst (λ (a : ℕ). RunsFrom a i (demands_of i target) past q) (sym at) (
          omega arith,
          ap (λ (x : Demand). x.address) (same q) ∙ moved_nowhere (address_on q i)
              ∙ ap (λ (n : ℕ). option_map (λ s. s + n) (address_on q i)) (sym empty),
        )

    data_has : (skipping : Skipping) (i : Instr) →
        ((target : Option ℕ) (q : Queue) → demand_on q (demands_of i target) ≡ demand_on q (demands_of i None)) →
        JobHas (data_fetched skipping i (length (encoded i)) (counted m)).pc
        (data_fetched skipping i (length (encoded i)) (counted m)).job past
    data_has Nothing i same = begun_has _ _ i (same _)
    data_has ToEol i same =
        subst (λ (job : Job). JobHas (m.pc + 4 * length (encoded i)) job past) (sym idle) (further (4 * length (encoded i)))
    data_has ToSync i same =
        subst (λ (job : Job). JobHas (m.pc + 4 * length (encoded i)) job past) (sym idle) (further (4 * length (encoded i)))

    pub fetched_has : (i : Instr) → IsPlain i →
        JobHas (instr_fetched i (length (encoded i)) (counted m)).pc (instr_fetched i (length (encoded i)) (counted m)).job past
    fetched_has (Jump ctl to) plain = absurd plain
    fetched_has (WriteC ctl ends off count) plain = absurd plain
    fetched_has (Sync ctl resync code) plain = further (4 * length (encoded (Sync ctl resync code)))
    fetched_has (Write ctl ends off count addr) plain = data_has m.skipping (Write ctl ends off count addr) (λ target q. refl)
    fetched_has (Skip ctl ends count) plain = data_has m.skipping (Skip ctl ends count) (λ target q. refl)
    fetched_has (Write123 ctl ends off counts addrs) plain = data_has m.skipping (Write123 ctl ends off counts addrs) (λ target q. refl)
    fetched_has (Skip123 ctl ends counts) plain = data_has m.skipping (Skip123 ctl ends counts) (λ target q. refl)
    fetched_has (Write1S23 ctl ends off counts addr) plain = data_has m.skipping (Write1S23 ctl ends off counts addr) (λ target q. refl)
