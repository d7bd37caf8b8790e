-- A line as the code keeps it.
use Rattle.std.specs.Prelude.{◌≡◌, ◌≤◌, ◌*◌, List, [], ◌∷◌, ⊤}
use Rattle.sync_status.specs.Statuses.{valid_bytes}
use Rattle.field_stream.specs.declared.lines.Line.{Line}
use Rattle.field_stream.specs.declared.lines.Line.TheVariants.{Packed, Planar}
use Rattle.field_stream.specs.Pushes.{Push, Mark, Fill, packed_line, planar_line}

abbrev pub line_pushes : Line → List Push
line_pushes (Packed bytes) = packed_line bytes
line_pushes (Planar luma chroma across) = planar_line luma chroma across

-- its records have 11,264 bytes at most: 11 for each entry
abbrev pub IsShort : Line → Type 0
IsShort (Packed bytes) = (5 ≤ bytes) × (bytes ≤ 4096)
IsShort (Planar luma chroma across) = (5 ≤ luma) × (luma ≤ 1024) × (5 ≤ chroma) × (1 ≤ across)

-- its chroma is as long as its luma, so that each entry of chroma follows an entry of luma
abbrev pub IsEven : Line → Type 0
IsEven (Packed bytes) = ⊤
IsEven (Planar luma chroma across) = luma ≡ chroma * across

-- each of some pushes is of an entry of four bytes
abbrev pub AreWhole : List Push → Type 0
AreWhole [] = ⊤
AreWhole (Mark code ∷ rest) = ⊥
AreWhole (Fill queue status ∷ rest) = (valid_bytes status ≡ 4) × AreWhole rest
