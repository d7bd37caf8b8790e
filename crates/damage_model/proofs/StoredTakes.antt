-- What a burst stores are the bytes that it takes, in their order, from the address on where the running instruction goes
-- on to write.
use Rattle.std.proofs.Common.{◌≡◌, ℕ, zero, suc, ◌+◌, ◌-◌, ◌≤◌, ◌⊎◌, inl, inr, Bool, true, false, ◌==◌, List, [], ◌∷◌, ◌++◌, append_assoc}
use Rattle.std.proofs.Common.{drop, length, length-append, length-drop, length-take}
use Rattle.std.proofs.Common.{Option, Some, None, option_map, if◌then◌else◌, refl, sym, ap, ap₂, ◌∙◌, subst, arith}
use Rattle.std.proofs.lemmas.List.{append-nil}
use Rattle.risc_word.specs.declared.Instr.{Instr}
use Rattle.sync_status.specs.declared.Verdict.{Verdict}
use Rattle.sync_status.specs.declared.Verdict.TheVariants.{Take, Discard, Broken, Missing}
use Rattle.sync_status.specs.Statuses.{kind_of, verdict_on}
use Rattle.fifo_model.specs.declared.Entry.{Entry}
use Rattle.fifo_model.specs.declared.Queue.{Queue}
use Rattle.fifo_model.specs.Queues.{bytes_taken, front, lane_bytes, queue_state}
use Rattle.machine_model.specs.declared.Demand.{Demand}
use Rattle.machine_model.specs.declared.Demands.{Demands}
use Rattle.machine_model.specs.declared.Job.{Job}
use Rattle.machine_model.specs.declared.Job.TheVariants.{Idle, Running}
use Rattle.machine_model.specs.Accesses.{burst_stores, judged_stores, served_stores, stores_in}
use Rattle.risc_word.specs.Parts.{instr_off}
use Rattle.machine_model.specs.States.{State}
use Rattle.machine_model.specs.Turns.{Store, apply, apply_in, burst, demand_less, demand_on, ended, is_cut_short, judged, served, stores_at}
use Rattle.machine_model.specs.Turns.{took, verdict_at, with_demand}
use Rattle.machine_model.specs.Seen.{Application, application_in, served_application}
use Rattle.machine_model.proofs.Fronts.{take-Takes}
use Rattle.field_law.specs.Arrivals.{is_queue}
use Rattle.field_law.specs.Sections.{laid}
use Rattle.field_law.proofs.Lines.{valid-most}
use Rattle.field_law.proofs.AskedAndToCome.{laid-append, stores_at-laid}
use Rattle.damage_model.specs.Takings.{Taking, burst_takings, left, taking_by, takings_of}
use Rattle.damage_model.proofs.ArrivedTakes.{demand_apart, demand_there}

-- the bytes that are taken
abbrev pub taken_bytes : List Taking → List ℕ
taken_bytes [] = []
taken_bytes (t ∷ rest) = bytes_taken t.entry t.taken t.count ++ taken_bytes rest

pub taken_bytes-append : (ts more : List Taking) → taken_bytes (ts ++ more) ≡ taken_bytes ts ++ taken_bytes more
taken_bytes-append [] more = refl
taken_bytes-append (t ∷ rest) more =
    ap (λ (bytes : List ℕ). bytes_taken t.entry t.taken t.count ++ bytes) (taken_bytes-append rest more)
    ∙ sym (append_assoc (bytes_taken t.entry t.taken t.count) (taken_bytes rest) (taken_bytes more))

-- as many as the verdict takes, and no more than are asked for
bytes_long : (entry : Entry) (sol : Bool) (taken rest count : ℕ) → verdict_on (kind_of entry.status) sol taken rest ≡ Take count →
    (length (bytes_taken entry taken count) ≡ count) × (count ≤ rest)
bytes_long entry sol taken rest count is =
    let least = (take-Takes (kind_of entry.status) sol taken rest count is).least in
    let most = valid-most entry.status in
    (omega (arith, length-take count (drop taken (lane_bytes entry.dword)), length-drop taken (lane_bytes entry.dword)), omega arith)

-- ---- bytes laid one after another

laid_nothing : (address : Option ℕ) → laid address [] ≡ []
laid_nothing None = refl
laid_nothing (Some at) = refl

moved_nowhere : (address : Option ℕ) → option_map (λ at. at + 0) address ≡ address
moved_nowhere None = refl
moved_nowhere (Some at) = ap (λ (a : ℕ). Some a) (omega arith)

pub moved_twice : (n k : ℕ) (address : Option ℕ) →
    option_map (λ at. at + k) (option_map (λ at. at + n) address) ≡ option_map (λ at. at + (n + k)) address
moved_twice n k None = refl
moved_twice n k (Some at) = ap (λ (a : ℕ). Some a) (omega arith)

-- ---- a burst to a queue

module _ (q : Queue) (instr : Instr) (plain : instr_off instr ≡ 0) (at : ℕ) where
  -- so many bytes less are asked for
  pub record GoesFrom (ds left : Demands) (count : ℕ) : Type 0 where
    pub rest : (demand_on q left).rest + count ≡ (demand_on q ds).rest
    pub address : (demand_on q left).address ≡ option_map (λ at. at + count) (demand_on q ds).address
    pub others : (p : Queue) → is_queue p q ≡ false → demand_on p left ≡ demand_on p ds

  -- it runs on, or was given up
  abbrev pub Ends : Job → Type 0
  Ends job = (job ≡ Idle) ⊎ ((left : Demands) × (job ≡ Running instr left))

  pub record Laid (ds : Demands) (after : State) (stores : List Store) (ts : List Taking) : Type 0 where
    pub ends : Ends after.job
    pub stored : stores ≡ laid (demand_on q ds).address (taken_bytes ts)
    pub few : length (taken_bytes ts) ≤ (demand_on q ds).rest
    pub goes_on : (left : Demands) → after.job ≡ Running instr left → GoesFrom ds left (length (taken_bytes ts))

  nothing : (ds : Demands) (m : State) → m.job ≡ Running instr ds → Laid ds m [] []
  nothing ds m j =
      record {
        ends = inr (ds, j);
        stored = sym (laid_nothing (demand_on q ds).address);
        few = omega arith;
        goes_on = λ left is.
            let both : Running instr left ≡ Running instr ds = sym is ∙ j in
            let same : left ≡ ds = cc in
            record {
              rest = let rest = ap (λ (x : Demands). (demand_on q x).rest) same in omega arith;
              address = ap (λ (x : Demands). (demand_on q x).address) same ∙ sym (moved_nowhere (demand_on q ds).address);
              others = λ p apart. ap (demand_on p) same;
            };
      }

  idle_stops : (n place : ℕ) (m : State) → m.job ≡ Idle →
      (burst_stores n q m ≡ []) × (burst_takings n q at place m ≡ []) × ((burst n q m).job ≡ Idle)
  idle_stops zero place m j = (refl, refl, j)
  idle_stops (suc n) place m j = (
    ap₂ (λ (made : List Store) (next : Option State). made ++ (elim next as (λ _. List Store) [
      | None ↦ []
      | Some after ↦ burst_stores n q after
    ])) (ap (λ (job : Job). stores_in job q m) j) none,
    ap₂ (λ (made : List Application) (next : Option State).
        takings_of at place made ++ (elim next as (λ _. List Taking) [
          | None ↦ []
          | Some after ↦ burst_takings n q at (place + left q m after) after
        ]))
        (ap (λ (job : Job). application_in job q m) j) none,
    ap (λ (next : Option State). (elim next as (λ _. State) [ None ↦ m | Some after ↦ burst n q after ]).job) none ∙ j,
  )
    where
      none : apply q m ≡ None
      none = ap (λ (job : Job). apply_in job q m) j

  -- bytes are taken, and then more
  module _ (ds : Demands) (entry : Entry) (taken count : ℕ)
      (is : verdict_on (kind_of entry.status) (demand_on q ds).needs_sol taken (demand_on q ds).rest ≡ Take count) where
    abbrev taking : ℕ → Taking
    taking place = record { at = at; place = place; entry = entry; taken = taken; count = count }

    abbrev bytes : List ℕ
    bytes = bytes_taken entry taken count

    abbrev first_stores : List Store
    first_stores = stores_at (demand_on q ds).address (instr_off instr) taken bytes

    first_laid : first_stores ≡ laid (demand_on q ds).address bytes
    first_laid =
        ap (λ (off : ℕ). stores_at (demand_on q ds).address off taken bytes) plain ∙ stores_at-laid (demand_on q ds).address taken bytes

    abbrev behind : Demands
    behind = with_demand q (demand_less count (demand_on q ds)) ds

    there : demand_on q behind ≡ demand_less count (demand_on q ds)
    there = demand_there q (demand_less count (demand_on q ds)) ds

    -- the instruction is given up
    last_laid : (place : ℕ) (after : State) → after.job ≡ Idle → Laid ds after (first_stores ++ []) (taking place ∷ [])
    last_laid place after idle =
        let long = bytes_long entry (demand_on q ds).needs_sol taken (demand_on q ds).rest count is in
        let nothing_more = length-append bytes [] in
        record {
          ends = inl idle;
          stored = append-nil first_stores ∙ first_laid ∙ ap (laid (demand_on q ds).address) (sym (append-nil bytes));
          few = let all = long.0 in let most = long.1 in omega (arith, nothing_more);
          goes_on = λ left runs. let never : Idle ≡ Running instr left = sym idle ∙ runs in cc;
        }

    -- it goes on
    more_laid : (place : ℕ) (after : State) (stores : List Store) (ts : List Taking) → Laid behind after stores ts →
        Laid ds after (first_stores ++ stores) (taking place ∷ ts)
    more_laid place after stores ts l =
        let long = bytes_long entry (demand_on q ds).needs_sol taken (demand_on q ds).rest count is in
        let size = long.0 in
        let most = long.1 in
        let rest_there : (demand_on q behind).rest ≡ (demand_on q ds).rest - count = ap (λ (d : Demand). d.rest) there in
        let address_there : (demand_on q behind).address ≡ option_map (λ at. at + count) (demand_on q ds).address =
        ap (λ (d : Demand). d.address) there in
        let all = length-append bytes (taken_bytes ts) in
        let few = l.few in
        record {
          ends = l.ends;
          stored =
              ap₂ (λ (xs ys : List Store). xs ++ ys) first_laid
              (l.stored ∙ ap (λ (address : Option ℕ). laid address (taken_bytes ts))
              (address_there ∙ ap (λ (n : ℕ). option_map (λ at. at + n) (demand_on q ds).address) (sym size)))
              ∙ sym (laid-append (demand_on q ds).address bytes (taken_bytes ts));
          few = omega arith;
          goes_on = λ left runs.
              let g = l.goes_on left runs in
              record {
                rest = let rest = g.rest in omega arith;
                address =
                    g.address ∙ ap (option_map (λ at. at + length (taken_bytes ts))) address_there
                    ∙ moved_twice count (length (taken_bytes ts)) (demand_on q ds).address
                    ∙ ap (λ (n : ℕ). option_map (λ at. at + n) (demand_on q ds).address) (omega arith);
                others = λ p apart. g.others p apart ∙ demand_apart p q (demand_less count (demand_on q ds)) ds apart;
              };
        }

  abbrev BurstLaid : ℕ → Type 0
  BurstLaid n =
      (place : ℕ) (ds : Demands) (m : State) → m.job ≡ Running instr ds →
      Laid ds (burst n q m) (burst_stores n q m) (burst_takings n q at place m)

  module _ (n : ℕ) (on : BurstLaid n) (place : ℕ) (ds : Demands) (m : State) (j : m.job ≡ Running instr ds) where
    abbrev After : List Store → List Application → Option State → Type 0
    After made applied next =
        Laid ds (elim next as (λ _. State) [ None ↦ m | Some after ↦ burst n q after ])
        (made ++ (elim next as (λ _. List Store) [ None ↦ [] | Some after ↦ burst_stores n q after ]))
        (takings_of at place applied
        ++ (elim next as (λ _. List Taking) [ None ↦ [] | Some after ↦ burst_takings n q at (place + left q m after) after ]))

    -- one that takes nothing and is the last
    gives_up : (after : State) → after.job ≡ Idle →
        Laid ds (burst n q after) (burst_stores n q after) (burst_takings n q at (place + left q m after) after)
    gives_up after idle =
        let stops = idle_stops n (place + left q m after) after idle in
        subst (λ (stores : List Store). Laid ds (burst n q after) stores (burst_takings n q at (place + left q m after) after))
        (sym stops.0)
        (subst (Laid ds (burst n q after) []) (sym stops.1)
        (record {
          ends = inl stops.2;
          stored = sym (laid_nothing (demand_on q ds).address);
          few = omega arith;
          goes_on = λ left runs. let never : Idle ≡ Running instr left = sym stops.2 ∙ runs in cc;
        }))

    module _ (entry : Entry) where
      abbrev a : Application
      a = record { entry = entry; taken = (queue_state q m.queues).taken; demand = demand_on q ds }

      abbrev ByVerdict : Verdict → Type 0
      ByVerdict v =
          Laid ds (burst n q (judged v q instr ds entry m))
          (judged_stores v q instr ds entry m ++ burst_stores n q (judged v q instr ds entry m))
          ((taking_by v at place a ++ [])
          ++ burst_takings n q at (place + left q m (judged v q instr ds entry m)) (judged v q instr ds entry m))

      takes : (count : ℕ) (is : verdict_at q ds entry m ≡ Take count) (cut : Bool) →
          Laid ds (burst n q (ended cut instr (took q count instr ds entry m)))
          (stores_at (demand_on q ds).address (instr_off instr) (queue_state q m.queues).taken
          (bytes_taken entry (queue_state q m.queues).taken count) ++ burst_stores n q (ended cut instr (took q count instr ds entry m)))
          (taking ds entry (queue_state q m.queues).taken count is place ∷ burst_takings n q at
          (place + left q m (ended cut instr (took q count instr ds entry m))) (ended cut instr (took q count instr ds entry m)))
      takes count is true =
          let after : State = ended true instr (took q count instr ds entry m) in
          let stops = idle_stops n (place + left q m after) after refl in
          subst
          (λ (stores : List Store). Laid ds (burst n q after) (first_stores ds entry (queue_state q m.queues).taken count is ++ stores)
          (taking ds entry (queue_state q m.queues).taken count is place ∷ burst_takings n q at (place + left q m after) after))
          (sym stops.0)
          (subst (λ (ts : List Taking). Laid ds (burst n q after) (first_stores ds entry (queue_state q m.queues).taken count is ++ [])
          (taking ds entry (queue_state q m.queues).taken count is place ∷ ts)) (sym stops.1)
          (last_laid ds entry (queue_state q m.queues).taken count is place (burst n q after) stops.2))
      takes count is false =
          let after : State = took q count instr ds entry m in
          more_laid ds entry (queue_state q m.queues).taken count is place (burst n q after) (burst_stores n q after)
          (burst_takings n q at (place + left q m after) after)
          (on (place + left q m after) (with_demand q (demand_less count (demand_on q ds)) ds) after refl)

      by_verdict : (v : Verdict) → verdict_at q ds entry m ≡ v → ByVerdict v
      by_verdict Broken is = gives_up (judged Broken q instr ds entry m) refl
      by_verdict Missing is = gives_up (judged Missing q instr ds entry m) refl
      by_verdict Discard is = on (place + left q m (judged Discard q instr ds entry m)) ds (judged Discard q instr ds entry m) j
      by_verdict (Take count) is = takes count is (is_cut_short entry (queue_state q m.queues).taken count (demand_on q ds).rest)

    at_demand : (entry : Entry) (none : Bool) →
        After (if none then [] else judged_stores (verdict_at q ds entry m) q instr ds entry m)
        (if none then [] else record { entry = entry; taken = (queue_state q m.queues).taken; demand = demand_on q ds } ∷ [])
        (if none then None else Some (judged (verdict_at q ds entry m) q instr ds entry m))
    at_demand entry true = nothing ds m j
    at_demand entry false = by_verdict entry (verdict_at q ds entry m) refl

    at_front : (top : Option Entry) → After (served_stores top q instr ds m) (served_application top q ds m) (served top q instr ds m)
    at_front None = nothing ds m j
    at_front (Some entry) = at_demand entry ((demand_on q ds).rest == 0)

    one_more : Laid ds (burst (suc n) q m) (burst_stores (suc n) q m) (burst_takings (suc n) q at place m)
    one_more =
        subst (λ (job : Job). After (stores_in job q m) (application_in job q m) (apply_in job q m)) (sym j)
        (at_front (front (queue_state q m.queues)))

  -- what a burst stores is what it takes, from where the instruction was to write on; then that many bytes less are asked
  pub burst-Laid : (n : ℕ) → BurstLaid n
  burst-Laid zero place ds m j = nothing ds m j
  burst-Laid (suc n) place ds m j = one_more n (burst-Laid n) place ds m j
