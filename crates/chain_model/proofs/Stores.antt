-- What a turn stores doesn't depend on the program.
use Rattle.std.proofs.Common.{◌≡◌, ℕ, zero, suc, Bool, true, false, List, [], ◌++◌, map, Option, Some, None, option_map, refl, ap, ap₂, ◌∙◌}
use Rattle.std.proofs.Common.{if◌then◌else◌, ◌==◌}
use Rattle.risc_word.specs.declared.Instr.{Instr}
use Rattle.sync_status.specs.declared.Verdict.{Verdict}
use Rattle.sync_status.specs.declared.Verdict.TheVariants.{Take, Discard, Broken, Missing}
use Rattle.fifo_model.specs.declared.Entry.{Entry}
use Rattle.fifo_model.specs.declared.Queue.{Queue}
use Rattle.fifo_model.specs.Queues.{queue_state, front}
use Rattle.machine_model.specs.declared.Demands.{Demands}
use Rattle.machine_model.specs.declared.Job.{Job}
use Rattle.machine_model.specs.declared.Job.TheVariants.{Idle, Waiting, Running}
use Rattle.machine_model.specs.Paths.{RiscProgram}
use Rattle.machine_model.specs.States.{State}
use Rattle.machine_model.specs.Steps.{with_program}
use Rattle.machine_model.specs.Turns.{Store, demand_on, verdict_at, ended, is_cut_short, took, judged, served, apply_in, apply}
use Rattle.machine_model.specs.Turns.{lowest_served, is_done, counted}
use Rattle.machine_model.specs.Accesses.{judged_stores, served_stores, stores_in, burst_stores, burst_stores_of, ran_stores, worked_stores}
use Rattle.machine_model.specs.Accesses.{stores_if, writes}

module _ (program : RiscProgram) where
  -- ---- an application

  ends-with : (cut : Bool) (instr : Instr) (m : State) → ended cut instr (with_program program m) ≡ with_program program (ended cut instr m)
  ends-with true instr m = refl
  ends-with false instr m = refl

  judged-with : (verdict : Verdict) (q : Queue) (instr : Instr) (ds : Demands) (entry : Entry) (m : State) →
      judged verdict q instr ds entry (with_program program m) ≡ with_program program (judged verdict q instr ds entry m)
  judged-with Broken q instr ds entry m = refl
  judged-with Discard q instr ds entry m = refl
  judged-with Missing q instr ds entry m = refl
  judged-with (Take count) q instr ds entry m =
      ends-with (is_cut_short entry (queue_state q m.queues).taken count (demand_on q ds).rest) instr (took q count instr ds entry m)

  asked-with : (none : Bool) (other own : State) → other ≡ with_program program own →
      (if none then None else Some other) ≡ option_map (with_program program) (if none then None else Some own)
  asked-with true other own same = refl
  asked-with false other own same = ap Some same

  served-with : (top : Option Entry) (q : Queue) (instr : Instr) (ds : Demands) (m : State) →
      served top q instr ds (with_program program m) ≡ option_map (with_program program) (served top q instr ds m)
  served-with None q instr ds m = refl
  served-with (Some entry) q instr ds m =
      asked-with ((demand_on q ds).rest == 0) _ _ (judged-with (verdict_at q ds entry m) q instr ds entry m)

  apply-with : (job : Job) (q : Queue) (m : State) →
      apply_in job q (with_program program m) ≡ option_map (with_program program) (apply_in job q m)
  apply-with Idle q m = refl
  apply-with (Waiting ctl resync code) q m = refl
  apply-with (Running instr ds) q m = served-with (front (queue_state q m.queues)) q instr ds m

  -- ---- its stores

  judged_stores-with : (verdict : Verdict) (q : Queue) (instr : Instr) (ds : Demands) (entry : Entry) (m : State) →
      judged_stores verdict q instr ds entry (with_program program m) ≡ judged_stores verdict q instr ds entry m
  judged_stores-with Broken q instr ds entry m = refl
  judged_stores-with Discard q instr ds entry m = refl
  judged_stores-with Missing q instr ds entry m = refl
  judged_stores-with (Take count) q instr ds entry m = refl

  served_stores-with : (top : Option Entry) (q : Queue) (instr : Instr) (ds : Demands) (m : State) →
      served_stores top q instr ds (with_program program m) ≡ served_stores top q instr ds m
  served_stores-with None q instr ds m = refl
  served_stores-with (Some entry) q instr ds m =
      ap (λ (made : List Store). if (demand_on q ds).rest == 0 then [] else made)
      (judged_stores-with (verdict_at q ds entry m) q instr ds entry m)

  stores_in-with : (job : Job) (q : Queue) (m : State) → stores_in job q (with_program program m) ≡ stores_in job q m
  stores_in-with Idle q m = refl
  stores_in-with (Waiting ctl resync code) q m = refl
  stores_in-with (Running instr ds) q m = served_stores-with (front (queue_state q m.queues)) q instr ds m

  -- ---- a burst

  rest-with : (count : ℕ) (q : Queue) (next : Option State) →
      ((m : State) → burst_stores count q (with_program program m) ≡ burst_stores count q m) →
      (elim (option_map (with_program program) next) as (λ _. List Store) [ None ↦ [] | Some after ↦ burst_stores count q after ])
      ≡ (elim next as (λ _. List Store) [ None ↦ [] | Some after ↦ burst_stores count q after ])
  rest-with count q None more = refl
  rest-with count q (Some after) more = more after

  burst_stores-with : (count : ℕ) (q : Queue) (m : State) → burst_stores count q (with_program program m) ≡ burst_stores count q m
  burst_stores-with zero q m = refl
  burst_stores-with (suc count) q m =
      ap₂ (λ (first rest : List Store). first ++ rest) (stores_in-with m.job q m)
      (ap (λ (next : Option State). elim next as (λ _. List Store) [ None ↦ [] | Some after ↦ burst_stores count q after ])
      (apply-with m.job q m)
      ∙ rest-with count q (apply q m) (burst_stores-with count q))

  burst_stores_of-with : (q : Option Queue) (m : State) → burst_stores_of q (with_program program m) ≡ burst_stores_of q m
  burst_stores_of-with None m = refl
  burst_stores_of-with (Some q) m = burst_stores-with m.trigger q m

  ran_stores-with : (done : Bool) (ds : Demands) (m : State) → ran_stores done ds (with_program program m) ≡ ran_stores done ds m
  ran_stores-with true ds m = refl
  ran_stores-with false ds m = burst_stores_of-with (lowest_served ds m) m

  worked_stores-with : (job : Job) (m : State) → worked_stores job (with_program program m) ≡ worked_stores job m
  worked_stores-with Idle m = refl
  worked_stores-with (Waiting ctl resync code) m = refl
  worked_stores-with (Running instr ds) m = ran_stores-with (is_done ds) ds m

  stores_if-with : (on : Bool) (m : State) → stores_if on (with_program program m) ≡ stores_if on m
  stores_if-with false m = refl
  stores_if-with true m = worked_stores-with m.job m

  pub writes-with : (m : State) → writes (with_program program m) ≡ writes m
  writes-with m = ap (λ (made : List Store). map (λ store. store.address) made) (stores_if-with m.risc_on (counted m))
