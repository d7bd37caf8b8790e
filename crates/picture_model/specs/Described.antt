-- What a description asks for: its fields, the rows of its planes and where they lie, its VBI areas and
-- its memory. Planes are counted from 1, offsets are bytes, counted along the pages or chunks.
use Rattle.std.specs.Prelude.{ℕ, zero, suc, ◌+◌, ◌-◌, ◌*◌, ◌/◌, ◌^◌, ◌<◌, ◌≤◌, Bool, true, false, ◌==◌, All, length, List, [], ◌∷◌, ◌++◌}
use Rattle.std.specs.Prelude.{map, Option, Some, None, unwrap_or, if◌then◌else◌, max, ◌%◌, slice_index}
use Rattle.std.specs.List.{range_with_len}
use Rattle.pixel_layout.specs.declared.Parity.{Parity}
use Rattle.pixel_layout.specs.declared.Parity.TheVariants.{Top, Bottom}
use Rattle.pixel_layout.specs.Layouts.{Layout, layout, planes_of, row_bytes, chroma_row_from}
use Rattle.clip_spans.specs.Clipping.{max_rects}
use Rattle.page_table.specs.Grants.{Chunk}
use Rattle.page_table.specs.Taken.{listed, page_at}
use Rattle.capture_desc.specs.WellFormed.{IsWellFormed, max_skip_lines}
use Rattle.capture_desc.specs.declared.desc.Desc.{Desc}
use Rattle.capture_desc.specs.declared.desc.Fields.{Fields}
use Rattle.capture_desc.specs.declared.desc.Fields.TheVariants as fields

-- what every description meets; its pages are addresses, and it has not too many clip rectangles and
-- skipped lines
pub record IsDescription (d : Desc) : Type 0 where
  pub formed : IsWellFormed d
  pub pages : All (λ page. page < 2 ^ 32) d.pages
  pub clips : length d.clip ≤ max_rects
  pub skipped : d.skip_lines ≤ max_skip_lines

-- the fields

abbrev pub is_both : Fields → Bool
is_both fields.Top = false
is_both fields.Bottom = false
is_both fields.Both = true

-- the described fields, in the order of the program
abbrev pub fields_of : Fields → List Parity
fields_of fields.Top = Top ∷ []
fields_of fields.Bottom = Bottom ∷ []
fields_of fields.Both = Top ∷ Bottom ∷ []

abbrev pub describes : Fields → Parity → Bool
describes fields.Both field = true
describes fields.Top Top = true
describes fields.Top Bottom = false
describes fields.Bottom Top = false
describes fields.Bottom Bottom = true

-- how many described fields come before one
abbrev pub fields_before : Fields → Parity → ℕ
fields_before fields.Both Bottom = 1
fields_before _ field = 0

-- the number given for a described field, or 0
abbrev pub field_number : Option (List ℕ) → Fields → Parity → ℕ
field_number (Some numbers) which field = slice_index numbers (fields_before which field)
field_number None which field = 0

abbrev pub layout_of : Desc → Layout
layout_of d = layout d.format

abbrev pub both : Desc → Bool
both d = is_both d.fields

-- how many rows a field has; none where it isn't described
abbrev pub field_height : Desc → Parity → ℕ
field_height d field =
    if describes d.fields field then (if both d then d.height / 2 else d.height) else 0

-- the picture row that is row `number` of a field: with both fields, the top field has the even rows
abbrev pub picture_row : Bool → Parity → ℕ → ℕ
picture_row false field number = number
picture_row true Top number = 2 * number
picture_row true Bottom number = 2 * number + 1

-- the picture rows of a field, in order
abbrev pub rows_of : Desc → Parity → List ℕ
rows_of d field = map (picture_row (both d) field) (range_with_len 0 (field_height d field))

-- the field of a picture row
abbrev pub field_of : Fields → ℕ → Parity
field_of fields.Top row = Top
field_of fields.Bottom row = Bottom
field_of fields.Both row = if row % 2 == 0 then Top else Bottom

-- the rows of chroma

-- the row of a field whose chroma is the first that is kept
abbrev pub chroma_first : Desc → Parity → ℕ
chroma_first d field = field_number d.chroma_first d.fields field

-- the row of the planes of chroma that takes a picture row; none where its chroma isn't kept
abbrev pub chroma_row_of : Desc → ℕ → Option ℕ
chroma_row_of d row =
    chroma_row_from (layout_of d) (both d) (chroma_first d (field_of d.fields row)) row

-- one row more than the greatest; none where none is kept
abbrev pub rows_for : List (Option ℕ) → ℕ
rows_for [] = 0
rows_for (None ∷ rest) = rows_for rest
rows_for (Some row ∷ rest) = max (row + 1) (rows_for rest)

abbrev pub chroma_height : Desc → ℕ
chroma_height d = rows_for (map (chroma_row_of d) (range_with_len 0 d.height))

-- the planes

-- the planes of a picture, in order
abbrev pub planes : Desc → List ℕ
planes d = range_with_len 1 (planes_of (layout_of d))

-- the number given for a plane, or its default
abbrev pub given_or : Option (List ℕ) → ℕ → ℕ → ℕ
given_or (Some numbers) plane default = slice_index numbers (plane - 1)
given_or None plane default = default

abbrev pub plane_row_bytes : Desc → ℕ → ℕ
plane_row_bytes d plane = row_bytes (layout_of d) plane d.width

abbrev pub plane_rows : Desc → ℕ → ℕ
plane_rows d plane =
    if plane == 1 then d.height else chroma_height d

-- from one row of a plane to the next; by default rows are close together
abbrev pub stride : Desc → ℕ → ℕ
stride d plane = given_or d.stride plane (plane_row_bytes d plane)

-- from the first byte of some lines to the end of the last one, by the step from a line to the next and
-- the bytes of each
abbrev pub lines_bytes : ℕ → ℕ → ℕ → ℕ
lines_bytes zero step bytes = 0
lines_bytes (suc more) step bytes = more * step + bytes

-- from the first byte of a plane to the end of its last row
abbrev pub plane_bytes : Desc → ℕ → ℕ
plane_bytes d plane = lines_bytes (plane_rows d plane) (stride d plane) (plane_row_bytes d plane)

-- by default plane 1 begins at 0 and each next plane at the end of the one before it
abbrev pub default_offset : Desc → ℕ → ℕ
default_offset d zero = 0
default_offset d (suc zero) = 0
default_offset d (suc (suc before)) = default_offset d (suc before) + plane_bytes d (suc before)

abbrev pub offset : Desc → ℕ → ℕ
offset d plane = given_or d.offset plane (default_offset d plane)

-- the stretches of offsets that a picture takes

-- the offsets from `from` up to `to`, which isn't part of it
pub record Extent : Type 0 where
  pub from : ℕ
  pub to : ℕ

abbrev pub stretch : ℕ → ℕ → Extent
stretch from count = record { from = from; to = from + count }

abbrev pub extent : Desc → ℕ → Extent
extent d plane = stretch (offset d plane) (plane_bytes d plane)

abbrev pub highest_end : List Extent → ℕ
highest_end [] = 0
highest_end (e ∷ rest) = max e.to (highest_end rest)

abbrev pub extents : Desc → List Extent
extents d = map (extent d) (planes d)

-- the VBI lines that a field passes over before its first
abbrev pub vbi_skip : Desc → Parity → ℕ
vbi_skip d field = field_number d.vbi_skip d.fields field

-- from one VBI line to the next; by default a field's VBI lines are close together
abbrev pub vbi_stride : Desc → ℕ
vbi_stride d = unwrap_or d.vbi_stride d.vbi_bytes

-- from the first byte of a field's VBI lines to the end of the last one
abbrev pub vbi_size : Desc → ℕ
vbi_size d = lines_bytes d.vbi_lines (vbi_stride d) d.vbi_bytes

-- by default the VBI lines begin at the highest end of a plane, and with both fields the bottom field's
-- begin a step behind the top field's last
abbrev pub vbi_begin : Desc → ℕ
vbi_begin d = unwrap_or d.vbi_offset (highest_end (extents d))

abbrev pub vbi_offset : Desc → Parity → ℕ
vbi_offset d field = vbi_begin d + fields_before d.fields field * (d.vbi_lines * vbi_stride d)

abbrev pub vbi_area : Desc → Parity → Extent
vbi_area d field = stretch (vbi_offset d field) (vbi_size d)

-- the extents of the planes and the VBI areas of the described fields, of which some may be empty
abbrev pub taken : Desc → List Extent
taken d = extents d ++ map (vbi_area d) (fields_of d.fields)

-- the memory

-- the pages or chunks in the order in which the picture's bytes lie in them
abbrev pub memory_from : Option (List (ℕ × ℕ)) → List ℕ → List Chunk
memory_from None pages = map page_at pages
memory_from (Some pairs) pages = listed pairs

abbrev pub memory_of : Desc → List Chunk
memory_of d = memory_from d.chunks d.pages
