-- What is asked of a machine without a turn, and which instruction a turn retires.
use Rattle.std.specs.Prelude.{◌≡◌, ℕ, Bool, true, Option, Some, None, is_some}
use Rattle.fifo_model.specs.declared.Queue.{Queue}
use Rattle.fifo_model.specs.Queues.{Queues, front, queue_state}
use Rattle.risc_word.specs.declared.Instr.{Instr}
use Rattle.machine_model.specs.declared.Demands.{Demands}
use Rattle.machine_model.specs.declared.Did.{Did}
use Rattle.machine_model.specs.declared.Did.TheVariants.{Retired}
use Rattle.machine_model.specs.declared.Job.{Job}
use Rattle.machine_model.specs.declared.Job.TheVariants.{Idle, Waiting, Running}
use Rattle.machine_model.specs.Paths.{RiscProgram, is_word}
use Rattle.machine_model.specs.Safety.{IsSafe}
use Rattle.machine_model.specs.Seen.{StandsAt, seen}
use Rattle.machine_model.specs.States.{State}
use Rattle.machine_model.specs.Steps.{with_program}
use Rattle.machine_model.specs.Turns.{is_done, lowest_stray}

-- where the next turn fetches: with RISC enabled an idle machine fetches at pc
abbrev pub fetches_at : Bool → Job → ℕ → Option ℕ
fetches_at true Idle pc = Some pc
fetches_at _ _ pc = None

abbrev pub next_fetch : State → Option ℕ
next_fetch m = fetches_at m.risc_on m.job m.pc

-- the queue whose front the next turn drops: with RISC enabled a waiting machine drops a front that is no control code
abbrev pub drops_of : Bool → Job → Queues → Option Queue
drops_of true (Waiting ctl resync code) queues = lowest_stray queues
drops_of _ _ queues = None

abbrev pub next_drop : State → Option Queue
next_drop m = drops_of m.risc_on m.job m.queues

-- the address of the instruction that the next turn retires, if it retires one
abbrev pub retired_at : Did → ℕ → Option ℕ
retired_at Retired at = Some at
retired_at _ at = None

abbrev pub next_retirement : State → Option ℕ
next_retirement m = retired_at (seen m).did (seen m).at

-- whether a queue holds an entry
abbrev pub holds : Queue → State → Bool
holds q m = is_some (front (queue_state q m.queues))

-- a program with which the machine can go on from this state in place of its own
pub record CanGoOn (program : RiscProgram) (m : State) : Type 0 where
  pub base : program.base ≡ m.program.base
  pub there : (address : ℕ) → is_word program address ≡ is_word m.program address
  pub grants : program.grants ≡ m.program.grants
  pub safe : IsSafe (with_program program m)

-- the instruction that this state retires is at this address of the program, and pc is the address after it
pub record RetiresAt (m : State) (at : ℕ) : Type 0 where
  pub instr : Instr
  pub demands : Demands
  pub runs : m.job ≡ Running instr demands
  pub done : is_done demands ≡ true
  pub there : StandsAt m instr at
