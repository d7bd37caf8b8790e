-- The lines that a field brings, and which of them, and which of its bytes, a queue is at.
use Rattle.std.specs.Prelude.{ℕ, zero, suc, ◌+◌, ◌-◌, List, [], ◌∷◌, ◌++◌, map, slice_index_or}
use Rattle.std.specs.List.{range_with_len}
use Rattle.fifo_model.specs.declared.Queue.{Queue}
use Rattle.fifo_model.specs.declared.Queue.TheVariants.{One, Two, Three}
use Rattle.pixel_layout.specs.declared.Parity.{Parity}
use Rattle.capture_desc.specs.declared.desc.Desc.{Desc}
use Rattle.picture_model.specs.Described.{plane_row_bytes, rows_of, vbi_skip}
use Rattle.field_law.specs.Sections.{Ask, Await, Begin, GoOn}
use Rattle.check_model.specs.declared.Line.{Line}
use Rattle.check_model.specs.declared.Spot.{Spot}
use Rattle.check_model.specs.declared.Line.TheVariants.{SkippedVbi, Vbi, Skipped, Row}

-- the lines in the vertical blanking interval, in their order: none where there are no VBI lines
abbrev pub vbi_lines_from : ℕ → Desc → Parity → List Line
vbi_lines_from zero d field = []
vbi_lines_from (suc more) d field =
    map SkippedVbi (range_with_len 0 (vbi_skip d field)) ++ map Vbi (range_with_len 0 (suc more))

-- those of the picture: first the skipped ones, then a line for each picture row of the field
abbrev pub picture_lines : Desc → Parity → List Line
picture_lines d field = map Skipped (range_with_len 0 d.skip_lines) ++ map Row (rows_of d field)

-- the lines of a queue: VBI lines come by queue 1 alone
abbrev pub lines_on : Queue → Desc → Parity → List Line
lines_on One d field = vbi_lines_from d.vbi_lines d field ++ picture_lines d field
lines_on Two d field = picture_lines d field
lines_on Three d field = picture_lines d field

-- the plane whose bytes a queue brings
abbrev pub plane_on : Queue → ℕ
plane_on One = 1
plane_on Two = 2
plane_on Three = 3

-- how many bytes of a line a queue brings
abbrev pub line_bytes : Queue → Desc → Line → ℕ
line_bytes q d (SkippedVbi line) = d.vbi_bytes
line_bytes q d (Vbi line) = d.vbi_bytes
line_bytes q d (Skipped line) = plane_row_bytes d (plane_on q)
line_bytes q d (Row row) = plane_row_bytes d (plane_on q)

-- how far asks go: how many lines they begin, and how many bytes of the last one they take
pub record Reach : Type 0 where
  pub lines : ℕ
  pub bytes : ℕ

abbrev pub nowhere : Reach
nowhere = record { lines = 0; bytes = 0 }

abbrev pub reach_by : Reach → Ask → Reach
reach_by reach (Await code) = reach
reach_by reach (Begin count address) = record { lines = reach.lines + 1; bytes = count }
reach_by reach (GoOn count address) = record { lines = reach.lines; bytes = reach.bytes + count }

abbrev pub reached : Reach → List Ask → Reach
reached reach [] = reach
reached reach (ask ∷ rest) = reached (reach_by reach ask) rest

-- the byte so many bytes behind the first of the last line that is begun
abbrev pub spot_in : Queue → Desc → Parity → ℕ → ℕ → Spot
spot_in q d field lines number =
    record { line = slice_index_or (lines_on q d field) (lines - 1) (Row 0); number = number }

-- the last byte that is taken
abbrev pub last_spot : Queue → Desc → Parity → Reach → Spot
last_spot q d field reach = spot_in q d field reach.lines (reach.bytes - 1)

-- the byte that is asked next
abbrev pub next_spot : Queue → Desc → Parity → Reach → Ask → Spot
next_spot q d field reach (Begin count address) = spot_in q d field (reach.lines + 1) 0
next_spot q d field reach _ = spot_in q d field reach.lines reach.bytes
