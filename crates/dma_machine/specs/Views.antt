-- The machine's state, by the fields of its engine.
use Rattle.std.specs.Prelude.{List}
use Rattle.risc_word.specs.declared.Instr.{Instr}
use Rattle.page_table.specs.Blocks.{Block}
use Rattle.machine_model.specs.declared.Demands.{Demands}
use Rattle.machine_model.specs.declared.Job.{Job}
use Rattle.machine_model.specs.declared.Job.TheVariants as job
use Rattle.machine_model.specs.States.{State}
use Rattle.dma_machine.specs.declared.engine.Phase.{Phase}
use Rattle.dma_machine.specs.declared.engine.Phase.TheVariants.{Idle, Waiting, Running}
use Rattle.dma_machine.specs.declared.engine.Wait.{Wait}
use Rattle.dma_machine.specs.declared.engine.Engine.{Engine}

abbrev pub job_of : Phase → Wait → Instr → Demands → Job
job_of Idle wait instr demands = job.Idle
job_of Waiting wait instr demands = job.Waiting wait.ctl wait.resync wait.code
job_of Running wait instr demands = job.Running instr demands

module _ {R : Type 0} where
  abbrev pub state_of : (R → List Block) → Engine R → State
  state_of memory engine =
      record {
        program = engine.accepted;
        fifo_on = engine.fifo_on;
        risc_on = engine.risc_on;
        trigger = engine.trigger;
        pc = engine.pc;
        skipping = engine.skipping;
        target = engine.target;
        job = job_of engine.phase engine.wait engine.instr engine.demands;
        queues = engine.queues;
        memory = memory engine.ram;
        interrupts = engine.interrupts;
        turns = engine.turns;
        moved = engine.moved;
      }
