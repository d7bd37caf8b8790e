-- What the bytes before a fault of a stream file are, and the bytes up to and with the field at fault.
use Rattle.std.specs.Prelude.{◌≡◌, ℕ, ◌+◌, Bool, true, false, IsOk, List, ◌++◌, take}
use Rattle.capture_file.specs.declared.FileKind.{FileKind}
use Rattle.capture_file.specs.declared.FileKind.TheVariants as fault
use Rattle.capture_file.specs.declared.FileFault.{FileFault}
use Rattle.capture_file.specs.Streams.{steps_of}

-- some good file within a limit begins with these bytes
abbrev pub BeginsStream : ℕ → Bool → List ℕ → Type 0
BeginsStream limit chained bytes = (more : List ℕ) × IsOk (steps_of limit chained (bytes ++ more))

-- the same, with some limit
abbrev pub BeginsSome : Bool → List ℕ → Type 0
BeginsSome chained bytes = (limit : ℕ) × BeginsStream limit chained bytes

-- a fault at a field that is whole in the file, with the bytes of that field: the first word and a count of turns
-- are numbers of four, every other field is one byte
abbrev pub IsWhole : FileKind → Type 0
IsWhole kind = kind ≡ fault.Short → ⊥

abbrev pub field_width : FileKind → ℕ
field_width fault.Magic = 4
field_width fault.TooManyTurns = 4
field_width _ = 1

-- the bytes before the field at fault, and those up to and with it
abbrev pub before_field : FileFault → List ℕ → List ℕ
before_field found bytes = take found.at bytes

abbrev pub with_field : FileFault → List ℕ → List ℕ
with_field found bytes = take (found.at + field_width found.kind) bytes

-- Faults before whose field there is always a good file's beginning. Of the others, Short is at the end of the file
-- and TooLong at the limit, and at no field: of a count of turns that is cut there the bytes so far can be too many,
-- whatever follows them.
abbrev pub has_good_beginning : FileKind → Bool
has_good_beginning fault.Short = false
has_good_beginning fault.TooLong = false
has_good_beginning _ = true
