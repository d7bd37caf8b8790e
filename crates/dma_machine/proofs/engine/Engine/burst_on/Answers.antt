use Rattle.std.proofs.Common.{true, false, sym, ◌∙◌}
use Rattle.dma_machine.proofs.Bursts.{burst-applied}
use Rattle.dma_machine.proofs.engine.Engine.burst_on.Goals as goal

pub loop-left-preserved : goal.loop-left-preserved
loop-left-preserved g c =
    record {
      rest =
          sym (burst-applied c.loop-left.left c.args.q true _ _ c.loop-left-test.true c.if-apply.ensures.applied)
          ∙ c.loop-left.invariant.rest;
      within = c.if-apply.ensures.within;
    }

pub returns-else-apply : goal.returns-else-apply
returns-else-apply g c =
    sym (burst-applied c.loop-left.left c.args.q false _ _ c.loop-left-test.true c.if-apply.ensures.applied) ∙ c.loop-left.invariant.rest
