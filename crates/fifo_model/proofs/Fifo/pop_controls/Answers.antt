use Rattle.std.proofs.Common.{subst, arith}
use Rattle.std.proofs.lemmas.Grind.{common_steps}
use Rattle.fifo_model.specs.Queues.{all_removed, IsFifo}
use Rattle.fifo_model.proofs.ChangesKeepQueues.{IsFifo-all_removed}
use Rattle.fifo_model.proofs.Rings.{AreRings-kept}
use Rattle.fifo_model.proofs.Fifo.pop_controls.Goals as goal

pub invariant_of-self : goal.invariant_of-self
invariant_of-self c =
    AreRings-kept _ _ (all_removed c.args.self.now) (grind (arith, common_steps)) (grind (arith, common_steps))
    (IsFifo-all_removed c.args.self.now c.requires.one c.requires.two c.requires.three (subst IsFifo c.self.view_is c.self.invariant.facts))

pub returns-clause-facts : goal.returns-clause-facts
returns-clause-facts c = (invariant_of-self c).facts
