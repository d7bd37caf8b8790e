use Rattle.std.proofs.Common.{ap, ◌∙◌}
use Rattle.dma_machine.specs.Counts.{acted}
use Rattle.dma_machine.proofs.Standing.{still_acted}
use Rattle.dma_machine.proofs.Machine.stay.Goals as goal

pub loop-turn-preserved : goal.loop-turn-preserved
loop-turn-preserved g c = c.act.ensures.state ∙ (ap acted c.loop-turn.invariant ∙ still_acted c.args.self.now c.requires)
