use Rattle.std.proofs.Common.{◌≡◌, ◌-◌, replicate, true}
use Rattle.dma_machine.specs.Lost.{loses_all}
use Rattle.dma_machine.specs.Views.{state_of}
use Rattle.dma_machine.specs.declared.engine.Standing.TheVariants.{Unknown}
use Rattle.machine_model.specs.PlainEntries.{plain_entry}
use Rattle.machine_model.specs.Steps.{Push, run}
use Rattle.dma_machine.proofs.engine.Engine.lose_times.Given as goal

-- those that are left are pushed to what is made by the others
abbrev pub invariant-loop-push : goal.invariant-loop-push
invariant-loop-push g l =
    (run (state_of g.R.Ram.memory l.self) (replicate (l.count - l._push) (Push l.q (plain_entry 0)))
    ≡ run (state_of g.R.Ram.memory l.fn.self) (replicate l.count (Push l.q (plain_entry 0))))
    × (loses_all (state_of g.R.Ram.memory l.self) ≡ true)
    × (l.self.standing ≡ Unknown)
