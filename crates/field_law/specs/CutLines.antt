-- A line cut into parts, as one queue sees it: what is asked for it, and where its bytes go.
use Rattle.std.specs.Prelude.{◌≡◌, ℕ, ◌+◌, ◌-◌, ◌<◌, List, [], ◌∷◌, ◌++◌, length, take, drop, map, Option, Some, None, option_map}
use Rattle.std.specs.Prelude.{if◌then◌else◌, nat_lt, slice_index}
use Rattle.std.specs.List.{flat_map}
use Rattle.machine_model.specs.Turns.{Store}
use Rattle.field_law.specs.Fields.{Token, Row}
use Rattle.field_law.specs.Sections.{Ask, Begin, GoOn, laid}

-- so many bytes, which go to memory from an address on or nowhere
pub record LinePart : Type 0 where
  pub count : ℕ
  pub address : Option ℕ

-- the parts of a line, and the bytes that it brings
pub record CutLine : Type 0 where
  pub line_parts : List LinePart
  pub bytes : List ℕ

-- the first part has bytes, and together they have as many as the line
abbrev pub HasFirst : List LinePart → Type 0
HasFirst [] = Unit {0}
HasFirst (first ∷ rest) = 0 < first.count

abbrev pub bytes_of : List LinePart → ℕ
bytes_of [] = 0
bytes_of (first ∷ rest) = first.count + bytes_of rest

pub record IsCovered (line : CutLine) : Type 0 where
  pub some : 0 < length line.bytes
  pub first : HasFirst line.line_parts
  pub whole : bytes_of line.line_parts ≡ length line.bytes

-- the first begins the line, and the others go on in it
abbrev pub go_on : LinePart → Ask
go_on line_part = GoOn line_part.count line_part.address

abbrev pub line_asks : List LinePart → List Ask
line_asks [] = []
line_asks (first ∷ rest) = Begin first.count first.address ∷ map go_on rest

abbrev pub line_stores : List LinePart → List ℕ → List Store
line_stores [] bytes = []
line_stores (first ∷ rest) bytes = laid first.address (take first.count bytes) ++ line_stores rest (drop first.count bytes)

-- the same for lines one after another
abbrev pub lines_asks : List CutLine → List Ask
lines_asks lines = flat_map (λ line. line_asks line.line_parts) lines

abbrev pub lines_rows : List CutLine → List Token
lines_rows lines = map (λ line. Row line.bytes) lines

abbrev pub lines_stores : List CutLine → List Store
lines_stores lines = flat_map (λ line. line_stores line.line_parts line.bytes) lines

-- where byte x of a line goes, if anywhere
abbrev pub address_in : List LinePart → ℕ → Option ℕ
address_in [] x = None
address_in (first ∷ rest) x =
    if nat_lt x first.count then option_map (λ at. at + x) first.address else address_in rest (x - first.count)

-- what holds of each byte of a line at its address
abbrev pub EachByte : (Store → Type 0) → CutLine → Type 0
EachByte P line = (x address : ℕ) → x < length line.bytes → address_in line.line_parts x ≡ Some address →
    P (record { address = address; byte = slice_index line.bytes x })
