use Rattle.std.proofs.Common.{subst, arith}
use Rattle.std.proofs.lemmas.Grind.{common_steps}
use Rattle.fifo_model.specs.Queues.{pushed, IsFifo}
use Rattle.fifo_model.proofs.ChangesKeepQueues.{IsFifo-pushed}
use Rattle.fifo_model.proofs.Rings.{AreRings-kept}
use Rattle.fifo_model.proofs.Fifo.push.Goals as goal

pub invariant_of-self : goal.invariant_of-self
invariant_of-self c =
    AreRings-kept _ _ (pushed c.args.q c.args.e c.args.self.now) (grind (arith, common_steps)) (grind (arith, common_steps))
    (IsFifo-pushed c.args.q c.args.e c.args.self.now c.requires (subst IsFifo c.self.view_is c.self.invariant.facts))

pub returns-clause-facts : goal.returns-clause-facts
returns-clause-facts c = (invariant_of-self c).facts
