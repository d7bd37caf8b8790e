-- A burst, application by application.
use Rattle.std.proofs.Common.{◌≡◌, ℕ, zero, suc, ◌-◌, ◌<◌, Bool, true, false, Option, Some, None, sym, ap, ◌∙◌, arith, if◌then◌else◌}
use Rattle.fifo_model.specs.declared.Queue.{Queue}
use Rattle.machine_model.specs.States.{State}
use Rattle.machine_model.specs.Turns.{apply, burst}
use Rattle.dma_machine.specs.Needs.{Applied}

continued : (wanted : Option State) (left : ℕ) (q : Queue) (made : Bool) (after before : State) → Applied wanted made after before →
    (elim wanted as (λ _. State) [ None ↦ before | Some next ↦ burst left q next ]) ≡ (if made then burst left q after else after)
continued None left q true after before h = let e = h.0 in cc
continued None left q false after before h = sym h.1
continued (Some next) left q true after before h = ap (burst left q) (sym h.1)
continued (Some next) left q false after before h = let e = h.0 in cc

-- what is left of a burst after an application, or after none
pub burst-applied : (left : ℕ) (q : Queue) (made : Bool) (after before : State) → 0 < left → Applied (apply q before) made after before →
    burst left q before ≡ (if made then burst (left - 1) q after else after)
burst-applied zero q made after before some h = absurd (omega arith)
burst-applied (suc left) q made after before some h =
    let one_less : suc left - 1 ≡ left = omega arith in
    continued (apply q before) left q made after before h ∙ ap (λ n. if made then burst n q after else after) (sym one_less)
