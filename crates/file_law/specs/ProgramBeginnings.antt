-- What the bytes before a fault of a program file are, and the bytes up to and with the field at fault.
use Rattle.std.specs.Prelude.{◌≡◌, ℕ, ◌+◌, Bool, true, false, List, ◌++◌, take, Option, None, Some}
use Rattle.capture_file.specs.declared.FileKind.{FileKind}
use Rattle.capture_file.specs.declared.FileKind.TheVariants as fault
use Rattle.capture_file.specs.declared.FileFault.{FileFault}
use Rattle.capture_file.specs.declared.program.ProgramForm.{ProgramForm}
use Rattle.capture_file.specs.declared.program.ProgramForm.TheVariants.{Based, Spanned}
use Rattle.capture_file.specs.Programs.{HasProgram, form_of}
use Rattle.capture_file.specs.Streams.{number_at}

-- some good file begins with these bytes
abbrev pub BeginsFile : List ℕ → Type 0
BeginsFile bytes = (more : List ℕ) × HasProgram (bytes ++ more)

-- a fault at a field that is whole in the file, with the bytes of that field: the fill and a byte
-- after it are one, every other field is a number of four
abbrev pub IsWhole : FileKind → Type 0
IsWhole kind = kind ≡ fault.Short → ⊥

abbrev pub field_width : FileKind → ℕ
field_width fault.Pages = 1
field_width fault.AfterEnd = 1
field_width _ = 4

-- the bytes before the field at fault, and those up to and with it
abbrev pub before_field : FileFault → List ℕ → List ℕ
before_field found bytes = take found.at bytes

abbrev pub with_field : FileFault → List ℕ → List ℕ
with_field found bytes = take (found.at + field_width found.kind) bytes

-- the form that the first word of a file names, if any, and whether its words are one after another from a base on
abbrev pub form_named : List ℕ → Option ProgramForm
form_named bytes = elim (number_at bytes) [ None ↦ None | Some word ↦ form_of word ]

abbrev pub is_based : Option ProgramForm → Bool
is_based None = false
is_based (Some (Based layout)) = true
is_based (Some Spanned) = false

-- Faults before whose field there is always a good file's beginning, in files with a base and in all others. Of the
-- others, Short is at the end of the file and at no field, since a field that is cut isn't checked. Pages is found at
-- the fill, though the chunks before it decide it. A chunk, a span or an entry can be at fault where what is counted
-- finds no room any more, whatever is there (`beginnings_with_room_go_on` and `spans_with_room_go_on` state where they
-- do). The other kinds are those of streams.
abbrev pub has_good_beginning : Bool → FileKind → Bool
has_good_beginning based fault.Magic = true
has_good_beginning based fault.Base = based
has_good_beginning based fault.Count = based
has_good_beginning based fault.AfterEnd = true
has_good_beginning based _ = false
