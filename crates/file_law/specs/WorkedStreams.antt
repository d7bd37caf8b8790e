-- Worked stream files and their faults.
use Rattle.std.specs.Prelude.{◌≡◌, ℕ, Bool, List, ◌++◌, Err, codes}
use Rattle.capture_file.specs.declared.FileKind.{FileKind}
use Rattle.capture_file.specs.Streams.{fault_at, steps_of}

-- files of each form with these bytes behind the first word
abbrev pub first_form : List ℕ → List ℕ
first_form bytes = codes "BFS1" ++ bytes

abbrev pub second_form : List ℕ → List ℕ
second_form bytes = codes "BFS2" ++ bytes

abbrev pub chain_form : List ℕ → List ℕ
chain_form bytes = codes "BFS3" ++ bytes

-- a file of at most 16 bytes has this fault
abbrev pub IsAtFault : Bool → List ℕ → ℕ → FileKind → Type 0
IsAtFault chained bytes place kind = steps_of 16 chained bytes ≡ Err (fault_at place kind)
