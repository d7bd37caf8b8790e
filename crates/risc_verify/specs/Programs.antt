-- Words of a program by their addresses, and the first place of its path.
use Rattle.std.specs.Prelude.{ℕ, ◌+◌, ◌-◌, ◌/◌, List, [], ◌∷◌, length, Option, Some, None, if◌then◌else◌}
use Rattle.machine_model.specs.Paths.{RiscProgram, Span, Place, stands_in}

-- the number of the word at an address, if one of the spans has it and so many words are before them
abbrev pub number_from : ℕ → List Span → ℕ → Option ℕ
number_from before [] address = None
number_from before (s ∷ rest) address =
    if stands_in s address then Some (before + (address - s.at) / 4) else number_from (before + length s.words) rest address

-- the number of the word at an address, counted over all spans, if one is there
abbrev pub word_of : RiscProgram → ℕ → Option ℕ
word_of program address = number_from 0 program.spans address

abbrev pub first_place : RiscProgram → Place
first_place program = record { pc = program.base; target = None }
