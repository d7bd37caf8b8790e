-- A worked description with all that a description may have: both fields, VBI lines a step apart, one of which is skipped
-- before the top field's, skipped lines, a clip, a planar format of which every other row of a field keeps its chroma (of the
-- top field the second, of the bottom field the first), and two chunks, the second of which begins within a row.
use Rattle.std.specs.Prelude.{ℕ, ◌+◌, ◌*◌, ◌≤◌, List, [], ◌∷◌, ◌++◌, length, map, replicate, Some, None}
use Rattle.std.specs.List.{range_with_len}
use Rattle.risc_word.specs.declared.Code.TheVariants.{Vre, Fm1, Fm3}
use Rattle.fifo_model.specs.declared.Entry.{Entry}
use Rattle.fifo_model.specs.declared.Queue.{Queue}
use Rattle.fifo_model.specs.declared.Queue.TheVariants.{One, Two, Three}
use Rattle.fifo_model.specs.Queues.{queue_state}
use Rattle.pixel_layout.specs.declared.Format.TheVariants.{Yuv420p}
use Rattle.pixel_layout.specs.declared.Parity.TheVariants.{Top}
use Rattle.machine_model.specs.Steps.{Step, Push, Control, Turn}
use Rattle.capture_desc.specs.declared.desc.Desc.{Desc}
use Rattle.capture_desc.specs.declared.desc.Fields.TheVariants as fields
use Rattle.picture_model.specs.Programs.{compiled, size}
use Rattle.field_law.specs.Arrivals.{meeting, coming, entries_of, over_queues, turns_in}
use Rattle.field_law.specs.Worked.{begun, entry}
use Rattle.picture_law.specs.Pictures.{Picture}
use Rattle.picture_law.specs.Runs.{ArrivesAt, between, state_of}

-- rows of ten pixels, two in each field; two pixels of the first are clipped
abbrev pub planar : Desc
planar =
    record {
      format = Yuv420p;
      width = 10;
      height = 4;
      fields = fields.Both;
      stride = None;
      offset = None;
      chroma_first = Some (1 ∷ 0 ∷ []);
      skip_lines = 1;
      vbi_lines = 1;
      vbi_bytes = 5;
      vbi_offset = None;
      vbi_skip = Some (1 ∷ 0 ∷ []);
      vbi_stride = Some 8;
      clip = record { x = 2; y = 0; w = 2; h = 1 } ∷ [];
      base = 4096;
      pages = [];
      chunks = Some ((131072, 28) ∷ (196608, 48) ∷ []);
      fill = 0;
    }

-- lines of ten and of five bytes, which count up from a number, and the entries that bring them
abbrev pub ten : ℕ → List ℕ
ten from = range_with_len from 10

abbrev pub five : ℕ → List ℕ
five from = range_with_len from 5

abbrev pub four_lanes : ℕ → ℕ
four_lanes from = from + 256 * (from + 1 + 256 * (from + 2 + 256 * (from + 3)))

abbrev pub ten_entries : ℕ → List Entry
ten_entries from = entry 2 (four_lanes from) ∷ entry 0 (four_lanes (from + 4)) ∷ entry 9 (four_lanes (from + 8)) ∷ []

abbrev pub five_entries : ℕ → List Entry
five_entries from = entry 2 (four_lanes from) ∷ entry 5 (four_lanes (from + 4)) ∷ []

abbrev pub planar_picture : Picture
planar_picture =
    record {
      vbi = five 1 ∷ [];
      one = ten 16 ∷ ten 32 ∷ [];
      two = five 48 ∷ five 64 ∷ [];
      three = five 80 ∷ five 96 ∷ [];
    }

-- the top field is pushed whole, behind an entry of an earlier one; then the machine takes turns
abbrev pub line_pushes : Queue → List Entry → List Step
line_pushes q entries = map (Push q) entries

abbrev pub planar_pushes : List Step
planar_pushes =
    Control Vre ∷ Control Fm1 ∷ (line_pushes One (five_entries 160 ++ five_entries 1)
    ++ Control Fm3 ∷ (line_pushes One (ten_entries 112 ++ (ten_entries 16 ++ ten_entries 32))
    ++ (line_pushes Two (five_entries 128 ++ (five_entries 48 ++ five_entries 64))
    ++ line_pushes Three (five_entries 144 ++ (five_entries 80 ++ five_entries 96)))))

abbrev pub planar_moves : List Step
planar_moves = planar_pushes ++ replicate 100 Turn

abbrev pub planar_steps : List Step
planar_steps = begun ++ planar_moves

-- the premises of the bound, for entries that were all pushed before place i and turns up to place l
abbrev pub MeetsBound : ℕ → ℕ → ℕ → Type 0
MeetsBound j i l =
    (arrives : ArrivesAt planar Top planar_picture (state_of planar 0 planar_steps j) (between j l planar_steps))
    × ((q : Queue) → entries_of arrives.before arrives.entries q ≤ length (queue_state q (state_of planar 0 planar_steps j).queues).entries
    + length (coming (meeting (compiled planar) (between j i planar_steps)) q))
    × (5 * size planar Top + over_queues (entries_of arrives.before arrives.entries)
    ≤ turns_in (meeting (compiled planar) (between i l planar_steps)))
