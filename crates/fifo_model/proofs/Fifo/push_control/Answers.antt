use Rattle.std.proofs.Common.{subst, arith}
use Rattle.std.proofs.lemmas.Grind.{common_steps}
use Rattle.fifo_model.specs.Queues.{control_pushed, IsFifo}
use Rattle.fifo_model.proofs.ChangesKeepQueues.{IsFifo-control_pushed}
use Rattle.fifo_model.proofs.Rings.{AreRings-kept}
use Rattle.fifo_model.proofs.Fifo.push_control.Goals as goal

pub invariant_of-self-2 : goal.invariant_of-self-2
invariant_of-self-2 c =
    AreRings-kept _ _ (control_pushed c.args.c c.args.self.now) (grind (arith, common_steps)) (grind (arith, common_steps))
    (IsFifo-control_pushed c.args.c c.args.self.now (subst IsFifo c.self.view_is c.self.invariant.facts))

pub returns-clause-facts : goal.returns-clause-facts
returns-clause-facts c = (invariant_of-self-2 c).facts
