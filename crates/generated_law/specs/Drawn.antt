-- The steps that drawn pushes stand for, and the picture that the generator draws for a field.
use Rattle.std.specs.Prelude.{◌≡◌, ℕ, zero, suc, ◌+◌, ◌*◌, List, [], ◌∷◌, ◌++◌, take, drop, replicate}
use Rattle.byteorder.specs.Endian.{little_number}
use Rattle.sync_status.specs.Statuses.{valid_bytes}
use Rattle.fifo_model.specs.declared.Entry.{Entry}
use Rattle.fifo_model.specs.declared.Queue.{Queue}
use Rattle.fifo_model.specs.declared.Queue.TheVariants.{One, Two, Three}
use Rattle.pixel_layout.specs.declared.Parity.{Parity}
use Rattle.machine_model.specs.Steps as machine
use Rattle.machine_model.specs.Steps.{Step, Control, Turn}
use Rattle.capture_desc.specs.declared.desc.Desc.{Desc}
use Rattle.picture_model.specs.Described.{IsDescription, field_height, plane_row_bytes, vbi_skip}
use Rattle.picture_model.specs.Geometry.{IsFrame}
use Rattle.field_stream.specs.Generator.{drawn, lanes}
use Rattle.field_stream.specs.Pushes.{Push, Mark, Fill, field_pushes}
use Rattle.field_stream.specs.Made.{after}
use Rattle.field_law.specs.Fields.{carried}
use Rattle.field_law.specs.Arrivals.{pushed_in}
use Rattle.picture_law.specs.Pictures.{IsField, IsPicture, Picture, lines_on, plane_of}

-- the step of a push: a control code, or an entry with the lanes that are drawn
abbrev pub drawn_step : ℕ → Push → Step
drawn_step number (Mark code) = Control code
drawn_step number (Fill queue status) =
    machine.Push queue (record { status = status; dword = little_number 4 (lanes number (valid_bytes status)) })

-- the steps of some pushes, with 16 turns after each, and the number of the generator after them
abbrev pub drawn_steps : ℕ → List Push → List Step
drawn_steps number [] = []
drawn_steps number (push ∷ rest) = drawn_step number push ∷ (replicate 16 Turn ++ drawn_steps (after number push) rest)

abbrev pub number_behind : ℕ → List Push → ℕ
number_behind number [] = number
number_behind number (push ∷ rest) = number_behind (after number push) rest

-- the entries of a field over a queue, from a number of the generator on, and the bytes in their valid lanes
abbrev pub drawn_entries : Desc → Parity → ℕ → Queue → List Entry
drawn_entries d field number q = pushed_in (drawn_steps number (field_pushes d field)) q

abbrev pub drawn_bytes : Desc → Parity → ℕ → Queue → List ℕ
drawn_bytes d field number q = carried (drawn_entries d field number q)

-- bytes cut into so many lines, each of so many bytes
abbrev pub cut : ℕ → ℕ → List ℕ → List (List ℕ)
cut zero long bytes = []
cut (suc count) long bytes = take long bytes ∷ cut count long (drop long bytes)

-- how many bytes a queue brings before the rows of a field: those of VBI lines, over queue 1, where there are any, with the
-- lines that are skipped before them, and those of skipped lines
abbrev pub vbi_bytes_by : ℕ → ℕ → ℕ → ℕ
vbi_bytes_by zero skipped bytes = 0
vbi_bytes_by (suc more) skipped bytes = (skipped + suc more) * bytes

abbrev pub vbi_bytes_on : Desc → Parity → Queue → ℕ
vbi_bytes_on d field One = vbi_bytes_by d.vbi_lines (vbi_skip d field) d.vbi_bytes
vbi_bytes_on d field Two = 0
vbi_bytes_on d field Three = 0

abbrev pub bytes_before : Desc → Parity → Queue → ℕ
bytes_before d field q = vbi_bytes_on d field q + lines_on d q d.skip_lines * plane_row_bytes d (plane_of q)

-- the picture of a field that is drawn from a number on: what each queue brings, cut into its lines
abbrev pub rows_drawn : Desc → Parity → ℕ → Queue → List (List ℕ)
rows_drawn d field number q =
    cut (lines_on d q (field_height d field)) (plane_row_bytes d (plane_of q))
    (drop (bytes_before d field q) (drawn_bytes d field number q))

abbrev pub drawn_picture : Desc → Parity → ℕ → Picture
drawn_picture d field number =
    record {
      vbi = cut d.vbi_lines d.vbi_bytes (drop (vbi_skip d field * d.vbi_bytes) (drawn_bytes d field number One));
      one = rows_drawn d field number One;
      two = rows_drawn d field number Two;
      three = rows_drawn d field number Three;
    }

-- the picture is one of the field, whose entries bring it
abbrev pub DrawsPicture : Type 0
DrawsPicture = (d : Desc) (field : Parity) (number : ℕ) → IsDescription d → IsFrame d → IsPicture d field (drawn_picture d field number)

abbrev pub BringsPicture : Type 0
BringsPicture = (d : Desc) (field : Parity) (number : ℕ) → IsDescription d → IsFrame d →
    IsField d field (drawn_picture d field number) (drawn_entries d field number)

-- the data entries of steps, whatever their queue, and how many bytes are drawn for pushes
abbrev pub data_in : List Step → List Entry
data_in [] = []
data_in (machine.Push queue entry ∷ steps) = entry ∷ data_in steps
data_in (_ ∷ steps) = data_in steps

abbrev pub drawn_count : List Push → ℕ
drawn_count [] = 0
drawn_count (Mark code ∷ rest) = drawn_count rest
drawn_count (Fill queue status ∷ rest) = valid_bytes status + drawn_count rest

-- in the order of their pushes, the valid lanes of all entries have just the bytes that are drawn one after another
abbrev pub CarriesDrawn : Type 0
CarriesDrawn = (number : ℕ) (pushes : List Push) → carried (data_in (drawn_steps number pushes)) ≡ drawn number (drawn_count pushes)
