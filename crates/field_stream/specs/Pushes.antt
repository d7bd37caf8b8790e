-- What a decoder pushes in frames of a description, before the bytes are drawn.
use Rattle.std.specs.Prelude.{ℕ, zero, suc, ◌+◌, ◌-◌, ◌/◌, ◌%◌, ◌&&◌, ◌==◌, nat_lt, List, [], ◌∷◌, ◌++◌, map, if◌then◌else◌, slice_index}
use Rattle.std.specs.Int.{div_ceil}
use Rattle.std.specs.List.{flat_map, range_with_len}
use Rattle.risc_word.specs.declared.Code.{Code}
use Rattle.risc_word.specs.declared.Code.TheVariants.{Fm1}
use Rattle.fifo_model.specs.declared.Queue.{Queue}
use Rattle.fifo_model.specs.declared.Queue.TheVariants.{One, Two, Three}
use Rattle.pixel_layout.specs.declared.Parity.{Parity}
use Rattle.capture_desc.specs.declared.desc.Desc.{Desc}
use Rattle.picture_model.specs.Described.{field_height, fields_of, layout_of, plane_row_bytes, vbi_skip}
use Rattle.picture_model.specs.Programs.{data_code, vertical}

-- a control code to all queues, or an entry with this status to one of them
pub data Push : Type 0 where
  Mark : Code → Push
  Fill : Queue → ℕ → Push

-- ---- lines

-- a line of so many bytes: its entries, four bytes each but for the last
abbrev pub line_entries : ℕ → ℕ
line_entries bytes = div_ceil bytes 4

-- the statuses EOL1 to EOL4, and which of them the line ends with
abbrev pub end_statuses : List ℕ
end_statuses = 5 ∷ 9 ∷ 13 ∷ 1 ∷ []

abbrev pub end_status : ℕ → ℕ
end_status bytes = slice_index end_statuses ((bytes - 1) % 4)

-- the status of an entry of the line: SOL, then PXV, last EOL
abbrev pub status_at : ℕ → ℕ → ℕ
status_at bytes index =
    if index == 0 then 2 else (if index + 1 == line_entries bytes then end_status bytes else 0)

abbrev pub packed_line : ℕ → List Push
packed_line bytes = map (λ index. Fill One (status_at bytes index)) (range_with_len 0 (line_entries bytes))

-- An entry of a line of luma, and the two of chroma that follow it: each entry of chroma follows that
-- entry of luma whose index is `across` times its own.
abbrev pub chroma_after : ℕ → ℕ → ℕ → List Push
chroma_after chroma across index =
    if index % across == 0 && nat_lt (index / across) (line_entries chroma)
    then Fill Two (status_at chroma (index / across)) ∷ Fill Three (status_at chroma (index / across)) ∷ []
    else []

abbrev pub planar_at : ℕ → ℕ → ℕ → ℕ → List Push
planar_at luma chroma across index = Fill One (status_at luma index) ∷ chroma_after chroma across index

abbrev pub planar_line : ℕ → ℕ → ℕ → List Push
planar_line luma chroma across = flat_map (planar_at luma chroma across) (range_with_len 0 (line_entries luma))

-- ---- fields and frames

abbrev pub repeated : ℕ → List Push → List Push
repeated zero pushes = []
repeated (suc count) pushes = pushes ++ repeated count pushes

-- a row of the picture, or a skipped line, which is as long
abbrev pub picture_line : Desc → List Push
picture_line d =
    let l = layout_of d in
    if l.planar
    then planar_line (plane_row_bytes d 1) (plane_row_bytes d 2) l.across
    else packed_line (plane_row_bytes d 1)

-- the VBI part of a field: the lines that are skipped and the VBI lines; nothing where there are no VBI lines
abbrev pub vbi_pushes : ℕ → ℕ → ℕ → List Push
vbi_pushes zero skipped bytes = []
vbi_pushes (suc more) skipped bytes = Mark Fm1 ∷ repeated (skipped + suc more) (packed_line bytes)

-- a field's lines: those that are skipped, and its rows
abbrev pub picture_pushes : Desc → Parity → List Push
picture_pushes d field =
    Mark (data_code (layout_of d).planar) ∷ repeated (d.skip_lines + field_height d field) (picture_line d)

abbrev pub field_pushes : Desc → Parity → List Push
field_pushes d field =
    Mark (vertical field) ∷ (vbi_pushes d.vbi_lines (vbi_skip d field) d.vbi_bytes ++ picture_pushes d field)

abbrev pub frame_pushes : Desc → List Push
frame_pushes d = flat_map (field_pushes d) (fields_of d.fields)

abbrev pub stream_pushes : Desc → ℕ → List Push
stream_pushes d frames = repeated frames (frame_pushes d)

-- how many of some pushes are of data
abbrev pub entries_of : Push → ℕ
entries_of (Mark code) = 0
entries_of (Fill queue status) = 1

abbrev pub entries_in : List Push → ℕ
entries_in [] = 0
entries_in (push ∷ rest) = entries_of push + entries_in rest
