use Rattle.std.proofs.Common.{◌≡◌, ◌+◌, ◌*◌, ◌≤◌, None}
use Rattle.machine_model.specs.declared.Did.TheVariants.{Moved}
use Rattle.machine_model.specs.Paths.{demands_cause}
use Rattle.machine_model.specs.Seen.{applications, bytes_taken, seen_alone}
use Rattle.machine_model.specs.Turns.{burst}
use Rattle.page_table.specs.Blocks.{chunks_of}
use Rattle.dma_machine.specs.Noted.{all_noted}
use Rattle.dma_machine.specs.Views.{state_of}
use Rattle.dma_machine.proofs.engine.Engine.burst_told_on.Given as goal

abbrev pub invariant-loop-left : goal.invariant-loop-left
invariant-loop-left g l =
    record {
      rest : burst l.left l.q (state_of g.R.Ram.memory l.self) ≡ burst l.fn.self.trigger l.q (state_of g.R.Ram.memory l.fn.self);
      noted :
          all_noted l.q (applications l.left l.q (state_of g.R.Ram.memory l.self)) l.seen
          ≡ all_noted l.q (applications l.fn.self.trigger l.q (state_of g.R.Ram.memory l.fn.self)) (seen_alone (Moved l.q) l.at);
      taken :
          l.taken + bytes_taken (applications l.left l.q (state_of g.R.Ram.memory l.self))
          ≡ bytes_taken (applications l.fn.self.trigger l.q (state_of g.R.Ram.memory l.fn.self));
      few : l.taken + 4 * l.left ≤ 4 * l.fn.self.trigger;
      within : demands_cause (chunks_of (g.R.Ram.memory l.self.ram)) l.self.demands ≡ None;
    }

abbrev pub decreases-loop-left : goal.decreases-loop-left
decreases-loop-left g l = l.left
