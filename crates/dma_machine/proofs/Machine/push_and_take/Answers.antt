use Rattle.dma_machine.proofs.FallThrough.{falls_seen}
use Rattle.dma_machine.proofs.Machine.push_and_take.Goals as goal

pub returns-then-fall_open-clause-seen : goal.returns-then-fall_open-clause-seen
returns-then-fall_open-clause-seen g c e =
    falls_seen c.args.q c.args.e c.args.self.now c.fall_open.ensures.before.safe.orderly.queues (c.fall_open.ensures.falls e)
