-- A ring of two blocks, of one line of 8 bytes each, on one page; three lines arrive in it.
use Rattle.std.specs.Prelude.{ℕ, List, [], ◌∷◌, ◌++◌, replicate}
use Rattle.risc_word.specs.declared.Code.TheVariants.{Fm1}
use Rattle.fifo_model.specs.declared.Entry.{Entry}
use Rattle.fifo_model.specs.declared.Queue.TheVariants.{One}
use Rattle.machine_model.specs.States.{State, first_state}
use Rattle.machine_model.specs.Steps.{Step, Push, Control, Turn, run}
use Rattle.ring_model.specs.Rings.{Ring, ring_program}

abbrev pub two_lines : Ring
two_lines =
    record { blocks = 2; lines = 1; line_bytes = 8; base = 0x1000; pages = 0x20000 ∷ []; fill = 0 }

abbrev pub entry : ℕ → ℕ → Entry
entry status dword = record { status = status; dword = dword }

-- a line of 8 bytes: SOL, then EOL4
abbrev pub line_of : ℕ → ℕ → List Step
line_of first second = Push One (entry 2 first) ∷ Push One (entry 1 second) ∷ []

abbrev pub pushes : List Step
pushes =
    Control Fm1 ∷ line_of 0x13121110 0x17161514 ++ line_of 0x23222120 0x27262524 ++ line_of 0x33323130 0x37363534

-- all are pushed before the first turn
abbrev pub steps : ℕ → List Step
steps turns = pushes ++ replicate turns Turn

abbrev pub machine : State
machine = first_state (ring_program two_lines) 0

abbrev pub after : ℕ → State
after turns = run machine (steps turns)
