-- What a description asks of a queue for a row of a field, and that a whole row took it.
use Rattle.std.specs.Prelude.{◌≡◌, ◌↔◌, ℕ, Bool, true, false, List, [], length, slice_index_or}
use Rattle.fifo_model.specs.declared.Entry.{Entry}
use Rattle.fifo_model.specs.declared.Queue.{Queue}
use Rattle.pixel_layout.specs.declared.Parity.{Parity}
use Rattle.machine_model.specs.States.{State}
use Rattle.machine_model.specs.Steps.{Step}
use Rattle.capture_desc.specs.declared.desc.Desc.{Desc}
use Rattle.picture_model.specs.Described.{plane_row_bytes}
use Rattle.field_law.specs.Fields.{carried, is_line}
use Rattle.picture_law.specs.Pictures.{IsKeptAt, has_plane, of_row, plane_of}
use Rattle.picture_law.specs.Runs.{between, state_of}
use Rattle.damage_model.specs.Lines.{no_takings}
use Rattle.damage_model.specs.Marks.{marks, row_addresses, takings_at}
use Rattle.damage_model.specs.Standing.{HaveEntered, IsSignalSince, StandsAt, row_entries, row_entries_at}

-- where the format has the plane of the queue, a line as long as a row on that plane; else nothing
abbrev pub AreAskedBy : Bool → ℕ → List Entry → Type 0
AreAskedBy true bytes entries = (is_line entries ≡ true) × (length (carried entries) ≡ bytes)
AreAskedBy false bytes entries = entries ≡ []

abbrev pub AreAsked : Desc → Queue → List Entry → Type 0
AreAsked d q entries = AreAskedBy (has_plane d q) (plane_row_bytes d (plane_of q)) entries

-- Of a row of a field, whose section begins at an address, over steps from a state. The entries that the row's instructions took
-- from a queue entered it one after another, and are what the description asks of the queue for a row. In a state behind these
-- steps each byte of the row that is kept is at its place, and is that byte of the line that these entries are.
pub record HoldsLine (begin : ℕ) (d : Desc) (field : Parity) (q : Queue) (number : ℕ) (m : State) (steps : List Step)
    (after : State) : Type 0 where
  pub entered : HaveEntered (row_entries_at begin d field number q m steps) q m steps
  pub asked : AreAsked d q (row_entries_at begin d field number q m steps)
  pub kept :
      (x address : ℕ) → IsKeptAt d field (of_row q number x) address →
      StandsAt (row_entries_at begin d field number q m steps) x address after

-- at a signal of a field, the entries of which the instructions of a whole row took a byte since the opening
abbrev pub WholeRowsTookAsked : Type 0
WholeRowsTookAsked =
    (d : Desc) (field : Parity) (fill : ℕ) (steps : List Step) (j k : ℕ) → IsSignalSince d field fill steps j k → (q : Queue) (number : ℕ) →
    slice_index_or (marks d field (state_of d fill steps j) (between j k steps)) number false ≡ true →
    AreAsked d q (row_entries d field number q (state_of d fill steps j) (between j k steps))

-- so they took nothing of a queue exactly where nothing is asked of it
abbrev pub NothingTakenIsNothingAsked : Type 0
NothingTakenIsNothingAsked =
    (d : Desc) (field : Parity) (fill : ℕ) (steps : List Step) (j k : ℕ) → IsSignalSince d field fill steps j k → (q : Queue) (number : ℕ) →
    slice_index_or (marks d field (state_of d fill steps j) (between j k steps)) number false ≡ true →
    (no_takings (takings_at (slice_index_or (row_addresses d field) number []) q (state_of d fill steps j) (between j k steps))
    ≡ true) ↔ (has_plane d q ≡ false)
