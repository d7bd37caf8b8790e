use Rattle.std.proofs.Common.{◌≡◌, None}
use Rattle.machine_model.specs.Paths.{demands_cause}
use Rattle.machine_model.specs.Turns.{burst}
use Rattle.page_table.specs.Blocks.{chunks_of}
use Rattle.dma_machine.specs.Views.{state_of}
use Rattle.dma_machine.proofs.engine.Engine.burst_on.Given as goal

abbrev pub invariant-loop-left : goal.invariant-loop-left
invariant-loop-left g l =
    record {
      rest : burst l.left l.q (state_of g.R.Ram.memory l.self) ≡ burst l.fn.left l.q (state_of g.R.Ram.memory l.fn.self);
      within : demands_cause (chunks_of (g.R.Ram.memory l.self.ram)) l.self.demands ≡ None;
    }

abbrev pub decreases-loop-left : goal.decreases-loop-left
decreases-loop-left g l = l.left
