use Rattle.std.proofs.Common.{sym}
use Rattle.machine_model.proofs.Fronts.{front-stray}
use Rattle.dma_machine.proofs.engine.Engine.wait.Goals as goal

pub drop_front-requires-clause-no_code : goal.drop_front-requires-clause-no_code
drop_front-requires-clause-no_code g c = front-stray _ c.args.self.now.queues (sym c.in-Some.ensures.lowest)
