use Rattle.std.proofs.Common.{subst, arith}
use Rattle.std.proofs.lemmas.Grind.{common_steps}
use Rattle.fifo_model.specs.Queues.{with_queue_state, taken_from, queue_state, IsFifo}
use Rattle.fifo_model.proofs.ChangesKeepQueues.{IsFifo-taken_from}
use Rattle.fifo_model.proofs.Rings.{AreRings-kept}
use Rattle.fifo_model.proofs.Fifo.take.Goals as goal

pub invariant_of-self : goal.invariant_of-self
invariant_of-self c =
    AreRings-kept _ _ (with_queue_state c.args.q (taken_from c.args.n (queue_state c.args.q c.args.self.now)) c.args.self.now)
    (grind (arith, common_steps)) (grind (arith, common_steps))
    (IsFifo-taken_from c.args.q c.args.n c.args.self.now c.requires.some c.requires.valid
    (subst IsFifo c.self.view_is c.self.invariant.facts))

pub returns-clause-facts : goal.returns-clause-facts
returns-clause-facts c = (invariant_of-self c).facts
