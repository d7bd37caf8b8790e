-- Pushes take the same course with another program.
use Rattle.std.proofs.Common.{◌≡◌, List, [], ◌∷◌, refl, sym, ap, ◌∙◌}
use Rattle.fifo_model.specs.declared.Entry.{Entry}
use Rattle.fifo_model.specs.declared.Queue.{Queue}
use Rattle.machine_model.specs.Paths.{RiscProgram}
use Rattle.machine_model.specs.States.{State}
use Rattle.machine_model.specs.Steps.{Push, push, run, with_program}
use Rattle.machine_model.proofs.ProgramStays.{program-step}
use Rattle.dma_machine.specs.Lost.{pushes}
use Rattle.chain_model.proofs.Others.{step-with}

pub pushes_alike : (entries : List (Queue × Entry)) (program : RiscProgram) (m : State) → m.program.base ≡ program.base →
    with_program program (run m (pushes entries)) ≡ run (with_program program m) (pushes entries)
pushes_alike [] program m base = refl
pushes_alike (first ∷ later) program m base =
    pushes_alike later program (push first.0 first.1 m)
    (ap (λ (p : RiscProgram). p.base) (program-step (Push first.0 first.1) m) ∙ base)
    ∙ ap (λ (s : State). run s (pushes later)) (sym (step-with program (Push first.0 first.1) m (λ is. absurd (cc)) base))
