-- The steps of decoder, DMA controller and host, and runs of them.
use Rattle.std.specs.Prelude.{ℕ, ◌*◌, ◌^◌, Bool, true, false, List, [], ◌∷◌, take, None}
use Rattle.risc_word.specs.declared.Code.{Code}
use Rattle.fifo_model.specs.declared.Entry.{Entry}
use Rattle.fifo_model.specs.declared.Queue.{Queue}
use Rattle.fifo_model.specs.declared.Pushed.{Pushed}
use Rattle.fifo_model.specs.declared.Pushed.TheVariants.{Off}
use Rattle.fifo_model.specs.Queues.{queue_state, is_full, some_full, pushed, push_answer, control_pushed, control_answer, cleared}
use Rattle.irq_status.specs.declared.HostWrite.{HostWrite}
use Rattle.irq_status.specs.declared.HostWrite.TheVariants.{Ack, Enable, Trigger}
use Rattle.irq_status.specs.Register.{fbus, acknowledged}
use Rattle.machine_model.specs.declared.Job.TheVariants.{Idle}
use Rattle.machine_model.specs.declared.Skipping.TheVariants.{Nothing}
use Rattle.machine_model.specs.Paths.{RiscProgram}
use Rattle.machine_model.specs.States.{State}
use Rattle.machine_model.specs.Turns.{with_bits_raised, turn}

-- FBUS is raised where a push was lost
abbrev pub with_fbus_if : Bool → State → State
with_fbus_if true m = with_bits_raised fbus m
with_fbus_if false m = m

-- a data push; a push is ignored while the FIFO is disabled
abbrev pub data_push : Queue → Entry → State → State
data_push q entry m =
    record (with_fbus_if (is_full (queue_state q m.queues)) m) { queues = pushed q entry m.queues }

abbrev pub push_if : Bool → Queue → Entry → State → State
push_if true q entry m = data_push q entry m
push_if false q entry m = m

abbrev pub push : Queue → Entry → State → State
push q entry m = push_if m.fifo_on q entry m

abbrev pub answer_if : Bool → Pushed → Pushed
answer_if true answer = answer
answer_if false answer = Off

abbrev pub pushed_as : Queue → State → Pushed
pushed_as q m = answer_if m.fifo_on (push_answer q m.queues)

-- a push of a control code into the three queues
abbrev pub code_push : Code → State → State
code_push code m =
    record (with_fbus_if (some_full m.queues) m) { queues = control_pushed code m.queues }

abbrev pub push_control_if : Bool → Code → State → State
push_control_if true code m = code_push code m
push_control_if false code m = m

abbrev pub push_control : Code → State → State
push_control code m = push_control_if m.fifo_on code m

abbrev pub control_pushed_as : State → Pushed
control_pushed_as m = answer_if m.fifo_on (control_answer m.queues)

-- the enables: FIFO 0 empties the queues, and RISC from 0 to 1 begins at the base again
abbrev pub with_fifo : Bool → State → State
with_fifo true m = record m { fifo_on = true }
with_fifo false m = record m { fifo_on = false; queues = cleared m.queues }

abbrev pub restarted : State → State
restarted m =
    record m { risc_on = true; pc = m.program.base; job = Idle; skipping = Nothing; target = None }

abbrev pub with_risc : Bool → Bool → State → State
with_risc true was_on m = restarted_unless was_on m
  where
    restarted_unless : Bool → State → State
    restarted_unless true m = m
    restarted_unless false m = restarted m
with_risc false was_on m = record m { risc_on = false }

-- a register write of the host
abbrev pub host : HostWrite → State → State
host (Ack mask) m = record m { interrupts = acknowledged m.interrupts mask }
host (Enable fifo risc) m = with_risc risc m.risc_on (with_fifo fifo m)
host (Trigger number) m = record m { trigger = 4 * 2 ^ number }

-- one atomic step
pub data Step : Type 0 where
  Push : Queue → Entry → Step
  Control : Code → Step
  Turn : Step
  Host : HostWrite → Step

abbrev pub step : Step → State → State
step (Push q entry) m = push q entry m
step (Control code) m = push_control code m
step Turn m = turn m
step (Host write) m = host write m

-- the state after a list of steps
abbrev pub run : State → List Step → State
run m [] = m
run m (s ∷ steps) = run (step s m) steps

-- a run of which each step meets a program of its own
abbrev pub with_program : RiscProgram → State → State
with_program program m = record m { program = program }

abbrev pub run_in : State → List (RiscProgram × Step) → State
run_in m [] = m
run_in m (s ∷ steps) = run_in (step s.1 (with_program s.0 m)) steps

-- the state at a place of a list of steps: the moment before the step of that number
abbrev pub state_at : State → List Step → ℕ → State
state_at m steps number = run m (take number steps)
