-- The machine's state.
use Rattle.std.specs.Prelude.{ℕ, Bool, true, List, Option, None}
use Rattle.fifo_model.specs.Queues.{Queues, empty_fifo}
use Rattle.page_table.specs.Blocks.{Block, filled}
use Rattle.machine_model.specs.declared.Skipping.{Skipping}
use Rattle.machine_model.specs.declared.Skipping.TheVariants.{Nothing}
use Rattle.machine_model.specs.declared.Job.{Job}
use Rattle.machine_model.specs.declared.Job.TheVariants.{Idle}
use Rattle.machine_model.specs.Paths.{RiscProgram}

-- `trigger` is the number of entries that makes a queue ready, and that one turn moves at most;
-- `target` is where a WRITEC goes on; `interrupts` is the register INT_STAT; `turns` and `moved` count
-- the turns taken and the bytes stored
pub record State : Type 0 where
  pub program : RiscProgram
  pub fifo_on : Bool
  pub risc_on : Bool
  pub trigger : ℕ
  pub pc : ℕ
  pub skipping : Skipping
  pub target : Option ℕ
  pub job : Job
  pub queues : Queues
  pub memory : List Block
  pub interrupts : ℕ
  pub turns : ℕ
  pub moved : ℕ

-- the machine as it is made, over memory of any bytes and queues that are empty
abbrev pub started : RiscProgram → List Block → Queues → State
started program memory queues =
    record {
      program = program;
      fifo_on = true;
      risc_on = true;
      trigger = 1;
      pc = program.base;
      skipping = Nothing;
      target = None;
      job = Idle;
      queues = queues;
      memory = memory;
      interrupts = 0;
      turns = 0;
      moved = 0;
    }

-- the first state: every granted byte is `fill`, and the queues are empty
abbrev pub first_state : RiscProgram → ℕ → State
first_state program fill = started program (filled fill program.grants) empty_fifo
