-- Steps that are no turns are the same beside another program of the same base.
use Rattle.std.proofs.Common.{◌≡◌, ℕ, Bool, true, false, None, refl, sym, ap, ◌∙◌}
use Rattle.risc_word.specs.declared.Code.{Code}
use Rattle.fifo_model.specs.declared.Entry.{Entry}
use Rattle.fifo_model.specs.declared.Queue.{Queue}
use Rattle.fifo_model.specs.Queues.{Queues, is_full, pushed, control_pushed, queue_state, some_full}
use Rattle.irq_status.specs.declared.HostWrite.{HostWrite}
use Rattle.irq_status.specs.declared.HostWrite.TheVariants.{Ack, Enable, Trigger}
use Rattle.machine_model.specs.declared.Job.TheVariants.{Idle}
use Rattle.machine_model.specs.declared.Skipping.TheVariants.{Nothing}
use Rattle.machine_model.specs.Paths.{RiscProgram}
use Rattle.machine_model.specs.States.{State}
use Rattle.machine_model.specs.Steps.{Step, Push, Control, Turn, Host, push_if, push_control_if, with_fbus_if, with_fifo, with_program}
use Rattle.machine_model.specs.Steps.{with_risc, host, step}

module _ (program : RiscProgram) where
  with_queues : (full : Bool) (queues : Queues) (m : State) →
      (record (with_fbus_if full (with_program program m)) { queues = queues })
      ≡ with_program program (record (with_fbus_if full m) { queues = queues })
  with_queues true queues m = refl
  with_queues false queues m = refl

  pushed-with : (on : Bool) (q : Queue) (entry : Entry) (m : State) →
      push_if on q entry (with_program program m) ≡ with_program program (push_if on q entry m)
  pushed-with true q entry m = with_queues (is_full (queue_state q m.queues)) (pushed q entry m.queues) m
  pushed-with false q entry m = refl

  control-with : (on : Bool) (code : Code) (m : State) →
      push_control_if on code (with_program program m) ≡ with_program program (push_control_if on code m)
  control-with true code m = with_queues (some_full m.queues) (control_pushed code m.queues) m
  control-with false code m = refl

  fifo-with : (fifo : Bool) (m : State) → with_fifo fifo (with_program program m) ≡ with_program program (with_fifo fifo m)
  fifo-with true m = refl
  fifo-with false m = refl

  base_after : (fifo : Bool) (m : State) → m.program.base ≡ program.base → (with_fifo fifo m).program.base ≡ program.base
  base_after true m same = same
  base_after false m same = same

  risc-with : (risc on : Bool) (m : State) → m.program.base ≡ program.base →
      with_risc risc on (with_program program m) ≡ with_program program (with_risc risc on m)
  risc-with true true m same = refl
  risc-with true false m same =
      ap (λ (base : ℕ). record m { program = program; risc_on = true; pc = base; job = Idle; skipping = Nothing; target = None }) (sym same)
  risc-with false on m same = refl

  host-with : (write : HostWrite) (m : State) → m.program.base ≡ program.base →
      host write (with_program program m) ≡ with_program program (host write m)
  host-with (Ack mask) m same = refl
  host-with (Enable fifo risc) m same =
      ap (with_risc risc m.risc_on) (fifo-with fifo m) ∙ risc-with risc m.risc_on (with_fifo fifo m) (base_after fifo m same)
  host-with (Trigger number) m same = refl

  pub step-with : (s : Step) (m : State) → ((s ≡ Turn) → ⊥) → m.program.base ≡ program.base →
      step s (with_program program m) ≡ with_program program (step s m)
  step-with (Push q entry) m other same = pushed-with m.fifo_on q entry m
  step-with (Control code) m other same = control-with m.fifo_on code m
  step-with Turn m other same = absurd (other refl)
  step-with (Host write) m other same = host-with write m same
