-- What every machine is, and what it reports.
use Rattle.std.specs.Prelude.{◌≡◌, ℕ, ◌≤◌}
use Rattle.fifo_model.specs.Queues.{Queues, chroma_capacity, luma_capacity, overruns_of}
use Rattle.machine_model.specs.Paths.{IsProgram, IsSound}
use Rattle.machine_model.specs.States.{State}
use Rattle.machine_model.specs.Safety.{IsSafe}
use Rattle.dma_machine.specs.declared.Report.{Report}

-- each queue has the room of the chip's: more entries than make it ready, at any of the trigger points
pub record HaveRoom (trigger : ℕ) (queues : Queues) : Type 0 where
  pub most : trigger ≤ 32
  pub one : queues.one.capacity ≡ luma_capacity
  pub two : queues.two.capacity ≡ chroma_capacity
  pub three : queues.three.capacity ≡ chroma_capacity

-- its program is one that can be made, and sound, its state is safe, and its queues become ready before they are full
pub record IsMachine (m : State) : Type 0 where
  pub made : IsProgram m.program
  pub sound : IsSound m.program
  pub safe : IsSafe m
  pub room : HaveRoom m.trigger m.queues

abbrev pub report_of : State → Report
report_of m =
    record { turns = m.turns; moved = m.moved; overruns = overruns_of m.queues; int_stat = m.interrupts }
