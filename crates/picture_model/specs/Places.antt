-- Which bytes of a picture are clipped, and where the bytes of the picture and of its VBI lines lie.
use Rattle.std.specs.Prelude.{◌≡◌, ℕ, ◌+◌, ◌*◌, ◌/◌, ◌<◌, ◌≤◌, Bool, true, ◌==◌, Option, Some, option_map, if◌then◌else◌}
use Rattle.pixel_layout.specs.declared.Parity.{Parity}
use Rattle.pixel_layout.specs.Layouts.{planes_of, row_bytes}
use Rattle.clip_spans.specs.Clipping.{unit_clipped}
use Rattle.capture_desc.specs.declared.desc.Desc.{Desc}
use Rattle.page_table.specs.Scattered.{address_at}
use Rattle.picture_model.specs.Described.{chroma_row_of, describes, layout_of, memory_of, offset, plane_row_bytes, stride, vbi_offset}
use Rattle.picture_model.specs.Described.{vbi_stride}

-- byte x of a picture row on a plane is clipped together with its unit
abbrev pub byte_clipped : Desc → ℕ → ℕ → ℕ → Bool
byte_clipped d plane row x =
    let l = layout_of d in
    unit_clipped d.clip row l.pixels (x / row_bytes l plane l.pixels)

-- the row of a plane that takes a picture row; none where the chroma isn't kept or the plane isn't there
abbrev pub plane_row : Desc → ℕ → ℕ → Option ℕ
plane_row d plane row = if plane == 1 then Some row else chroma_row_of d row

-- the offset of the first byte of a picture row on a plane
abbrev pub row_offset : Desc → ℕ → ℕ → Option ℕ
row_offset d plane row =
    option_map (λ kept. offset d plane + kept * stride d plane) (plane_row d plane row)

-- the offset of the first byte of a field's VBI line
abbrev pub vbi_line_offset : Desc → Parity → ℕ → ℕ
vbi_line_offset d field line = vbi_offset d field + line * vbi_stride d

-- a byte that a capture brings: byte x of a picture row on a plane, or byte x of a field's VBI line
pub data Byte : Type 0 where
  row_byte : ℕ → ℕ → ℕ → Byte
  vbi_byte : Parity → ℕ → ℕ → Byte

-- the planes of a picture are counted from 1
pub record HasPlane (d : Desc) (plane : ℕ) : Type 0 where
  pub low : 1 ≤ plane
  pub high : plane ≤ planes_of (layout_of d)

-- the bytes of a description
abbrev pub IsByte : Desc → Byte → Type 0
IsByte d (row_byte plane row x) = HasPlane d plane × (row < d.height) × (x < plane_row_bytes d plane)
IsByte d (vbi_byte field line x) = (describes d.fields field ≡ true) × (line < d.vbi_lines) × (x < d.vbi_bytes)

-- the offset of a byte, and its address; none where it isn't kept
abbrev pub byte_offset : Desc → Byte → Option ℕ
byte_offset d (row_byte plane row x) = option_map (λ from. from + x) (row_offset d plane row)
byte_offset d (vbi_byte field line x) = Some (vbi_line_offset d field line + x)

abbrev pub byte_place : Desc → Byte → Option ℕ
byte_place d b = option_map (address_at (memory_of d)) (byte_offset d b)

-- the address of byte x of a picture row on a plane, and of a field's VBI line
abbrev pub place : Desc → ℕ → ℕ → ℕ → Option ℕ
place d plane row x = byte_place d (row_byte plane row x)

abbrev pub vbi_place : Desc → Parity → ℕ → ℕ → ℕ
vbi_place d field line x = address_at (memory_of d) (vbi_line_offset d field line + x)
