-- Which rows of a field are whole lines at its last signal.
use Rattle.std.specs.Prelude.{ℕ, suc, ◌+◌, ◌*◌, Bool, true, false, ◌&&◌, ◌==◌, List, [], ◌∷◌, ◌++◌, length, map, replicate, take, filter}
use Rattle.std.specs.Prelude.{Option, Some, None, option_map, option_and_then}
use Rattle.std.specs.List.{list_all, list_any}
use Rattle.risc_word.specs.declared.Instr.{Instr}
use Rattle.risc_word.specs.Words.{encoded}
use Rattle.fifo_model.specs.declared.Queue.{Queue}
use Rattle.fifo_model.specs.declared.Queue.TheVariants.{One, Two, Three}
use Rattle.pixel_layout.specs.declared.Parity.{Parity}
use Rattle.machine_model.specs.declared.Did.{Did}
use Rattle.machine_model.specs.declared.Did.TheVariants.{Synced}
use Rattle.machine_model.specs.States.{State}
use Rattle.machine_model.specs.Seen.{seen}
use Rattle.machine_model.specs.Steps.{Step, Turn, state_at, step}
use Rattle.capture_desc.specs.declared.desc.Desc.{Desc}
use Rattle.picture_model.specs.Described.{layout_of, rows_of}
use Rattle.picture_model.specs.Plans.{row_strip, skipped_strip}
use Rattle.picture_model.specs.Programs.{data_code, line_instrs, lines_instrs, opening, section_begin, sync, vbi_instrs}
use Rattle.field_law.specs.Sections.{words_in}
use Rattle.field_law.specs.Arrivals.{is_signal}
use Rattle.picture_law.specs.Runs.{between}
use Rattle.picture_law.specs.Sections.{section_of}
use Rattle.damage_model.specs.Takings.{Taking, retires, takings}
use Rattle.damage_model.specs.Lines.{make_line}

-- the rows of a field

-- the addresses of instructions one after the other
abbrev pub addresses_from : ℕ → List Instr → List ℕ
addresses_from at [] = []
addresses_from at (instr ∷ rest) = at ∷ addresses_from (at + 4 * length (encoded instr)) rest

-- those of each of several lists of instructions
abbrev pub lines_from : ℕ → List (List Instr) → List (List ℕ)
lines_from at [] = []
lines_from at (line ∷ rest) = addresses_from at line ∷ lines_from (at + 4 * words_in line) rest

-- what is in a section before its rows
abbrev pub before_rows : Desc → Parity → List Instr
before_rows d field =
    opening field ∷ vbi_instrs d field
    ++ sync false (data_code (layout_of d).planar) ∷ lines_instrs d (replicate d.skip_lines (skipped_strip d))

-- the addresses of the instructions of each row, where the field's section begins at an address
abbrev pub row_addresses_at : ℕ → Desc → Parity → List (List ℕ)
row_addresses_at begin d field =
    lines_from (begin + 4 * words_in (before_rows d field)) (map (λ row. line_instrs d (row_strip d row)) (rows_of d field))

-- in the program of the description
abbrev pub row_addresses : Desc → Parity → List (List ℕ)
row_addresses d field = row_addresses_at (section_begin d d.base field) d field

-- a row is whole over steps: each of its instructions retires, and what they take of each queue makes a line
abbrev pub is_among : List ℕ → ℕ → Bool
is_among addresses address = list_any (λ other. address == other) addresses

abbrev pub takings_at : List ℕ → Queue → State → List Step → List Taking
takings_at addresses q m steps = filter (λ t. is_among addresses t.at) (takings q 0 m steps)

abbrev pub is_whole : State → List Step → List ℕ → Bool
is_whole m steps addresses =
    list_all (is_among (retires m steps)) addresses
    && make_line (takings_at addresses One m steps)
    && make_line (takings_at addresses Two m steps)
    && make_line (takings_at addresses Three m steps)

-- for each row of a field, whose section begins at an address, whether it is whole over steps
abbrev pub marks_at : ℕ → Desc → Parity → State → List Step → List Bool
marks_at begin d field m steps = map (is_whole m steps) (row_addresses_at begin d field)

-- in the program of the description
abbrev pub marks : Desc → Parity → State → List Step → List Bool
marks d field m steps = marks_at (section_begin d d.base field) d field m steps

-- the last signal, and the opening before it

-- a turn that begins to wait in the opening of a section that begins at an address, and in that of a field
abbrev pub is_synced : Did → Bool
is_synced Synced = true
is_synced _ = false

abbrev pub is_opening_at : ℕ → State → Step → Bool
is_opening_at begin m Turn = is_synced (seen m).did && (seen m).at == begin
is_opening_at begin m _ = false

abbrev pub is_opening : Desc → Parity → State → Step → Bool
is_opening d field m s = is_opening_at (section_begin d d.base field) m s

-- the number of the last step of which a test holds, in the state that it meets
abbrev pub later_or : Bool → Option ℕ → Option ℕ
later_or here (Some number) = Some (suc number)
later_or true None = Some 0
later_or false None = None

abbrev pub last_step : (State → Step → Bool) → State → List Step → Option ℕ
last_step test m [] = None
last_step test m (s ∷ steps) = later_or (test m s) (last_step test (step s m) steps)

-- the answer for a field: none before its first signal; else the marks over the steps from the last opening before its
-- last signal
abbrev pub marks_to : Desc → Parity → State → List Step → ℕ → Option (List Bool)
marks_to d field m steps k =
    option_map (λ j. marks d field (state_at m steps j) (between j k steps)) (last_step (is_opening d field) m (take k steps))

abbrev pub answer : Desc → Parity → State → List Step → Option (List Bool)
answer d field m steps =
    option_and_then (marks_to d field m steps) (last_step (is_signal (section_of d field)) m steps)
