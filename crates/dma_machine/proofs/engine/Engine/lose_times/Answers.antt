use Rattle.std.proofs.Common.{ap, ◌∙◌}
use Rattle.dma_machine.specs.Lost.{loses_all}
use Rattle.dma_machine.specs.Views.{state_of}
use Rattle.machine_model.specs.PlainEntries.{plain_entry}
use Rattle.machine_model.specs.Steps.{Push}
use Rattle.dma_machine.proofs.LostPushes.{one_fewer, still_full}
use Rattle.dma_machine.proofs.engine.Engine.lose_times.Goals as goal

pub loop-push-preserved : goal.loop-push-preserved
loop-push-preserved g c =
    let before = state_of g.R.Ram.memory c.loop-push.self in
    let known = c.loop-push.invariant in (
      one_fewer c.args.count c.loop-push._push (Push c.args.q (plain_entry 0)) before _ _ c.loop-push-test.true c.lose.ensures.state
          known.0,
      ap loses_all c.lose.ensures.state ∙ still_full before known.1 c.args.q (plain_entry 0),
      c.lose.ensures.stands ∙ known.2,
    )
