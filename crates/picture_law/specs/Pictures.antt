-- Pictures of a field: what the three queues bring for one, and which memory shows it.
use Rattle.std.specs.Prelude.{◌≡◌, ℕ, zero, suc, ◌<◌, Bool, true, false, All, List, [], ◌∷◌, ◌++◌, length, map, Some, if◌then◌else◌, nat_le}
use Rattle.std.specs.Prelude.{slice_index, slice_index_or}
use Rattle.risc_word.specs.declared.Code.TheVariants.{Fm1}
use Rattle.fifo_model.specs.declared.Entry.{Entry}
use Rattle.fifo_model.specs.declared.Queue.{Queue}
use Rattle.fifo_model.specs.declared.Queue.TheVariants.{One, Two, Three}
use Rattle.pixel_layout.specs.declared.Parity.{Parity}
use Rattle.pixel_layout.specs.Layouts.{planes_of}
use Rattle.page_table.specs.Grants.{Chunk, granted}
use Rattle.page_table.specs.Blocks.{Block, chunks_of, byte_at}
use Rattle.capture_desc.specs.declared.desc.Desc.{Desc}
use Rattle.picture_model.specs.Described.{both, field_height, layout_of, picture_row, plane_row_bytes, vbi_skip}
use Rattle.picture_model.specs.Places.{Byte, row_byte, vbi_byte, byte_clipped, byte_place}
use Rattle.picture_model.specs.Programs.{data_code, vertical}
use Rattle.field_law.specs.Fields.{Token, Mark, Row, Brings}

-- a picture of a field: the bytes of each of its VBI lines, and of each of its rows on each plane, in order; a plane that
-- the format doesn't have has no rows
pub record Picture : Type 0 where
  pub vbi : List (List ℕ)
  pub one : List (List ℕ)
  pub two : List (List ℕ)
  pub three : List (List ℕ)

-- each plane comes over a queue of its own
abbrev pub plane_of : Queue → ℕ
plane_of One = 1
plane_of Two = 2
plane_of Three = 3

abbrev pub rows_on : Picture → Queue → List (List ℕ)
rows_on picture One = picture.one
rows_on picture Two = picture.two
rows_on picture Three = picture.three

abbrev pub has_plane : Desc → Queue → Bool
has_plane d q = nat_le (plane_of q) (planes_of (layout_of d))

-- so many lines, each of so many bytes
pub record AreLines (count bytes : ℕ) (lines : List (List ℕ)) : Type 0 where
  pub many : length lines ≡ count
  pub long : All (λ line. length line ≡ bytes) lines

-- where the format has the plane of a queue, so many lines as long as a row on that plane; else none
abbrev pub lines_on : Desc → Queue → ℕ → ℕ
lines_on d q count = if has_plane d q then count else 0

abbrev pub AreRows : Desc → Queue → ℕ → List (List ℕ) → Type 0
AreRows d q count lines = AreLines (lines_on d q count) (plane_row_bytes d (plane_of q)) lines

abbrev pub HoldBytes : List (List ℕ) → Type 0
HoldBytes lines = All (λ line. All (λ byte. byte < 256) line) lines

-- a picture of a field of a description
pub record IsPicture (d : Desc) (field : Parity) (picture : Picture) : Type 0 where
  pub vbi : AreLines d.vbi_lines d.vbi_bytes picture.vbi
  pub rows : (q : Queue) → AreRows d q (field_height d field) (rows_on picture q)
  pub vbi_bytes : HoldBytes picture.vbi
  pub row_bytes : (q : Queue) → HoldBytes (rows_on picture q)

-- VBI lines come over queue 1
abbrev pub vbi_on : Picture → Queue → List (List ℕ)
vbi_on picture One = picture.vbi
vbi_on picture Two = []
vbi_on picture Three = []

abbrev pub lines_of : List (List ℕ) → List Token
lines_of lines = map Row lines

-- the lines of a field that are passed over: those before its VBI lines, and those before its rows on each queue
pub record SkippedLines : Type 0 where
  pub vbi : List (List ℕ)
  pub rows : Queue → List (List ℕ)

-- they are as long as the others, with any bytes
pub record AreSkipped (d : Desc) (field : Parity) (skipped : SkippedLines) : Type 0 where
  pub vbi : AreLines (vbi_skip d field) d.vbi_bytes skipped.vbi
  pub rows : (q : Queue) → AreRows d q d.skip_lines (skipped.rows q)

abbrev pub skipped_vbi_on : SkippedLines → Queue → List (List ℕ)
skipped_vbi_on skipped One = skipped.vbi
skipped_vbi_on skipped Two = []
skipped_vbi_on skipped Three = []

-- what a queue brings after the vertical code: where there are VBI lines, FM1, the skipped ones and those lines; then FM1
-- or FM3, the skipped lines and the rows
abbrev pub vbi_tokens : ℕ → List (List ℕ) → List (List ℕ) → List Token
vbi_tokens zero skipped lines = []
vbi_tokens (suc more) skipped lines = Mark Fm1 ∷ (lines_of skipped ++ lines_of lines)

abbrev pub picture_tokens : Bool → List (List ℕ) → List (List ℕ) → List Token
picture_tokens planar skipped rows = Mark (data_code planar) ∷ (lines_of skipped ++ lines_of rows)

abbrev pub field_tokens : Desc → Picture → SkippedLines → Queue → List Token
field_tokens d picture skipped q =
    vbi_tokens d.vbi_lines (skipped_vbi_on skipped q) (vbi_on picture q)
    ++ picture_tokens (layout_of d).planar (skipped.rows q) (rows_on picture q)

-- entries that bring a picture of a field; the bytes of its skipped lines are any
pub record IsField (d : Desc) (field : Parity) (picture : Picture) (entries : Queue → List Entry) : Type 0 where
  pub skipped : SkippedLines
  pub lines : AreSkipped d field skipped
  pub brings : (q : Queue) → Brings (Mark (vertical field) ∷ field_tokens d picture skipped q) (entries q)

-- a byte of a field: byte x of a row on the plane of a queue, or byte x of a VBI line; rows are counted in the field
pub data FieldByte : Type 0 where
  of_row : Queue → ℕ → ℕ → FieldByte
  of_vbi : ℕ → ℕ → FieldByte

-- which byte of the description it is, and which number the picture has for it
abbrev pub byte_in : Desc → Parity → FieldByte → Byte
byte_in d field (of_row q number x) = row_byte (plane_of q) (picture_row (both d) field number) x
byte_in d field (of_vbi line x) = vbi_byte field line x

abbrev pub byte_x : List (List ℕ) → ℕ → ℕ → ℕ
byte_x lines number x = slice_index (slice_index_or lines number []) x

abbrev pub shown_as : Picture → FieldByte → ℕ
shown_as picture (of_row q number x) = byte_x (rows_on picture q) number x
shown_as picture (of_vbi line x) = byte_x picture.vbi line x

-- the bytes of a field that are not clipped
abbrev pub IsUnclipped : Desc → Parity → FieldByte → Type 0
IsUnclipped d field (of_row q number x) =
    (has_plane d q ≡ true) × (number < field_height d field) × (x < plane_row_bytes d (plane_of q))
    × (byte_clipped d (plane_of q) (picture_row (both d) field number) x ≡ false)
IsUnclipped d field (of_vbi line x) = (line < d.vbi_lines) × (x < d.vbi_bytes)

-- it is kept at an address
abbrev pub IsKeptAt : Desc → Parity → FieldByte → ℕ → Type 0
IsKeptAt d field byte address = IsUnclipped d field byte × (byte_place d (byte_in d field byte) ≡ Some address)

-- memory has each of these addresses
abbrev pub HasPlaces : Desc → Parity → List Chunk → Type 0
HasPlaces d field chunks = (byte : FieldByte) (address : ℕ) → IsKeptAt d field byte address → granted chunks address ≡ true

-- memory after a picture of a field: each byte that is kept is at its place, and at every other address is what
-- was there before
pub record After (d : Desc) (field : Parity) (picture : Picture) (before now : List Block) : Type 0 where
  pub keys : chunks_of now ≡ chunks_of before
  pub shown : (byte : FieldByte) (address : ℕ) → IsKeptAt d field byte address → byte_at now address ≡ shown_as picture byte
  pub others : (address : ℕ) → ((byte : FieldByte) → IsKeptAt d field byte address → ⊥) → byte_at now address ≡ byte_at before address
