-- A picture of one line, worked: it arrives behind an entry of an earlier one.
use Rattle.std.specs.Prelude.{List, [], ◌∷◌, ◌++◌}
use Rattle.machine_model.specs.States.{State, first_state}
use Rattle.machine_model.specs.Steps.{Step, Turn, run}
use Rattle.picture_model.specs.Programs.{compiled}
use Rattle.picture_model.specs.Worked.{smallest}
use Rattle.field_law.specs.Worked.{begun, line, moves}
use Rattle.picture_law.specs.Pictures.{Picture}

abbrev pub picture : Picture
picture = record { vbi = []; one = line ∷ []; two = []; three = [] }

-- the machine waits in the opening, and its first queue holds pixels of an earlier field
abbrev pub machine : State
machine = run (first_state (compiled smallest) 0) begun

-- a whole run: to that state, and on to the signal
abbrev pub steps : List Step
steps = begun ++ (moves ++ Turn ∷ [])
