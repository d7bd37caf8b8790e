-- The bytes of whole rows are in memory.
use Rattle.std.specs.Prelude.{◌≡◌, ℕ, ◌+◌, ◌<◌, true, false, All, List, [], length, take, Some, slice_index, slice_index_or}
use Rattle.fifo_model.specs.declared.Entry.{Entry}
use Rattle.fifo_model.specs.declared.Queue.{Queue}
use Rattle.page_table.specs.Blocks.{byte_at}
use Rattle.pixel_layout.specs.declared.Parity.{Parity}
use Rattle.machine_model.specs.Safety.{IsOrderly, IsStep}
use Rattle.machine_model.specs.States.{State, first_state}
use Rattle.machine_model.specs.Steps.{Step}
use Rattle.capture_desc.specs.declared.desc.Desc.{Desc}
use Rattle.picture_model.specs.Described.{IsDescription, describes}
use Rattle.picture_model.specs.Geometry.{IsValid}
use Rattle.picture_model.specs.Programs.{compiled, section_begin}
use Rattle.field_law.specs.Fields.{carried, is_line}
use Rattle.picture_law.specs.Pictures.{of_row, IsKeptAt}
use Rattle.picture_law.specs.Runs.{between, signals_at, state_of}
use Rattle.picture_law.specs.Sections.{section_of}
use Rattle.damage_model.specs.Lines.{entries_from, entries_taken}
use Rattle.damage_model.specs.Marks.{is_opening, last_step, marks, marks_at, row_addresses_at, takings_at}
use Rattle.damage_model.specs.Orders.{entry_at, stream}

-- the entries of which the instructions of a row take a byte, over steps from a state, where the field's section begins at an
-- address
abbrev pub row_entries_at : ℕ → Desc → Parity → ℕ → Queue → State → List Step → List Entry
row_entries_at begin d field number q m steps =
    entries_taken (takings_at (slice_index_or (row_addresses_at begin d field) number []) q m steps)

-- in the program of the description
abbrev pub row_entries : Desc → Parity → ℕ → Queue → State → List Step → List Entry
row_entries d field number q m steps = row_entries_at (section_begin d d.base field) d field number q m steps

-- in a run of a valid description's program from the first state step k is a signal of a field, which was last opened at
-- step j before it
pub record IsSignalSince (d : Desc) (field : Parity) (fill : ℕ) (steps : List Step) (j k : ℕ) : Type 0 where
  pub description : IsDescription d
  pub valid : IsValid d
  pub described : describes d.fields field ≡ true
  pub made : All IsStep steps
  pub there : k < length steps
  pub signal : signals_at (section_of d field) (first_state (compiled d) fill) steps k ≡ true
  pub opened : last_step (is_opening d field) (first_state (compiled d) fill) (take k steps) ≡ Some j

-- byte x of the line that entries make is at an address
pub record StandsAt (entries : List Entry) (x address : ℕ) (m : State) : Type 0 where
  pub line : is_line entries ≡ true
  pub inside : x < length (carried entries)
  pub byte : byte_at m.memory address ≡ slice_index (carried entries) x

-- right after the signal each byte of a row that is whole and isn't clipped is at its place, where it has one
abbrev pub WholeRowsStand : Type 0
WholeRowsStand =
    (d : Desc) (field : Parity) (fill : ℕ) (steps : List Step) (j k : ℕ) → IsSignalSince d field fill steps j k →
    (q : Queue) (number x address : ℕ) →
    slice_index_or (marks d field (state_of d fill steps j) (between j k steps)) number false ≡ true →
    IsKeptAt d field (of_row q number x) address →
    StandsAt (row_entries d field number q (state_of d fill steps j) (between j k steps)) x address (state_of d fill steps (k + 1))

-- entries that entered a queue one after another: some of those that it holds and that enter it over steps
abbrev pub HaveEntered : List Entry → Queue → State → List Step → Type 0
HaveEntered entries q m steps = (from : ℕ) × (count : ℕ) × (entries ≡ entries_from (entry_at (stream q m steps)) from count)

-- the entries of which the instructions of a whole row take a byte did, wherever the field's section begins
abbrev pub WholeRowsEntered : Type 0
WholeRowsEntered =
    (begin : ℕ) (d : Desc) (field : Parity) (m : State) (steps : List Step) → IsOrderly m → All IsStep steps → (q : Queue) (number : ℕ) →
    slice_index_or (marks_at begin d field m steps) number false ≡ true →
    HaveEntered (row_entries_at begin d field number q m steps) q m steps
