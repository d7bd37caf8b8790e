-- What each part of a turn keeps, every turn keeps.
use Rattle.std.proofs.Common.{◌≡◌, ℕ, zero, suc, Bool, true, false, Option, Some, None, refl, subst, if◌then◌else◌, ◌==◌}
use Rattle.risc_word.specs.declared.Code.{Code}
use Rattle.risc_word.specs.declared.Ctl.{Ctl}
use Rattle.risc_word.specs.declared.Instr.{Instr}
use Rattle.fifo_model.specs.declared.Entry.{Entry}
use Rattle.fifo_model.specs.declared.Queue.{Queue}
use Rattle.fifo_model.specs.Queues.{queue_state, front}
use Rattle.machine_model.specs.declared.Demands.{Demands}
use Rattle.machine_model.specs.declared.Job.{Job}
use Rattle.machine_model.specs.declared.Job.TheVariants.{Idle, Waiting, Running}
use Rattle.machine_model.specs.Paths.{fetch}
use Rattle.machine_model.specs.States.{State}
use Rattle.machine_model.specs.Turns.{counted, fetched, waited, retired, is_done, demand_on, verdict_at, judged, served, apply_in, apply}
use Rattle.machine_model.specs.Turns.{burst, burst_of, ran, worked, turn_if, turn}

-- each part of a turn keeps the fact
pub record IsKept (P : State → Type 0) : Type 0 where
  pub counts : (m : State) → P m → P (counted m)
  pub fetches : (m : State) → m.job ≡ Idle → P m → P (fetched (fetch m.program m.pc) m)
  pub waits : (ctl : Ctl) (resync : Bool) (code : Code) (m : State) → m.job ≡ Waiting ctl resync code → P m →
      P (waited ctl resync code m)
  pub retires : (instr : Instr) (ds : Demands) (m : State) → m.job ≡ Running instr ds → is_done ds ≡ true → P m →
      P (retired instr m)
  pub judges : (q : Queue) (instr : Instr) (ds : Demands) (entry : Entry) (m : State) → m.job ≡ Running instr ds →
      front (queue_state q m.queues) ≡ Some entry → ((demand_on q ds).rest == 0) ≡ false → P m →
      P (judged (verdict_at q ds entry m) q instr ds entry m)

module _ (P : State → Type 0) (kept : IsKept P) where
  asked : (q : Queue) (instr : Instr) (ds : Demands) (entry : Entry) (m after : State) (none : Bool) →
      m.job ≡ Running instr ds → front (queue_state q m.queues) ≡ Some entry → ((demand_on q ds).rest == 0) ≡ none → P m →
      (if none then None else Some (judged (verdict_at q ds entry m) q instr ds entry m)) ≡ Some after → P after
  asked q instr ds entry m after true e f n h s = cc
  asked q instr ds entry m after false e f n h s =
      let same : judged (verdict_at q ds entry m) q instr ds entry m ≡ after = cc in
      subst P same (kept.judges q instr ds entry m e f n h)

  served-kept : (q : Queue) (instr : Instr) (ds : Demands) (m after : State) (top : Option Entry) →
      m.job ≡ Running instr ds → front (queue_state q m.queues) ≡ top → P m → served top q instr ds m ≡ Some after → P after
  served-kept q instr ds m after None e f h s = cc
  served-kept q instr ds m after (Some entry) e f h s = asked q instr ds entry m after _ e f refl h s

  apply_in-kept : (job : Job) (q : Queue) (m after : State) → m.job ≡ job → P m → apply_in job q m ≡ Some after → P after
  apply_in-kept Idle q m after e h s = cc
  apply_in-kept (Waiting ctl resync code) q m after e h s = cc
  apply_in-kept (Running instr ds) q m after e h s = served-kept q instr ds m after _ e refl h s

  pub apply-kept : (q : Queue) (m after : State) → P m → apply q m ≡ Some after → P after
  apply-kept q m after h s = apply_in-kept m.job q m after refl h s

  continued : (count : ℕ) (q : Queue) (m : State) (next : Option State) → P m →
      ((after : State) → next ≡ Some after → P (burst count q after)) →
      P (elim next as (λ _. State) [ None ↦ m | Some after ↦ burst count q after ])
  continued count q m None h go = h
  continued count q m (Some after) h go = go after refl

  pub burst-kept : (count : ℕ) (q : Queue) (m : State) → P m → P (burst count q m)
  burst-kept zero q m h = h
  burst-kept (suc count) q m h =
      continued count q m (apply q m) h (λ after e. burst-kept count q after (apply-kept q m after h e))

  burst_of-kept : (q : Option Queue) (m : State) → P m → P (burst_of q m)
  burst_of-kept None m h = h
  burst_of-kept (Some q) m h = burst-kept m.trigger q m h

  ran-kept : (done : Bool) (instr : Instr) (ds : Demands) (m : State) → m.job ≡ Running instr ds → is_done ds ≡ done → P m →
      P (ran done instr ds m)
  ran-kept true instr ds m e d h = kept.retires instr ds m e d h
  ran-kept false instr ds m e d h = burst_of-kept _ m h

  worked-kept : (job : Job) (m : State) → m.job ≡ job → P m → P (worked job m)
  worked-kept Idle m e h = kept.fetches m e h
  worked-kept (Waiting ctl resync code) m e h = kept.waits ctl resync code m e h
  worked-kept (Running instr ds) m e h = ran-kept _ instr ds m e refl h

  turn_if-kept : (on : Bool) (m : State) → P m → P (turn_if on m)
  turn_if-kept false m h = h
  turn_if-kept true m h = worked-kept m.job m refl h

  pub turn-kept : (m : State) → P m → P (turn m)
  turn-kept m h = turn_if-kept m.risc_on (counted m) (kept.counts m h)
