-- What a run promises of the rows of the fields that it captures, where its program is that of a description. Place k is the
-- moment before step k.
use Rattle.std.specs.Prelude.{◌≡◌, ℕ, ◌+◌, ◌<◌, true, false, List, length, replicate, take, Some, slice_index_or}
use Rattle.fifo_model.specs.declared.Queue.{Queue}
use Rattle.pixel_layout.specs.declared.Parity.{Parity}
use Rattle.machine_model.specs.Paths.{RiscProgram}
use Rattle.machine_model.specs.States.{State}
use Rattle.machine_model.specs.Steps.{Step, state_at}
use Rattle.capture_desc.specs.declared.desc.Desc.{Desc}
use Rattle.picture_model.specs.Described.{IsDescription, describes, field_height}
use Rattle.picture_model.specs.Geometry.{IsValid}
use Rattle.picture_model.specs.Programs.{compiled, section_begin}
use Rattle.field_law.specs.Arrivals.{is_signal}
use Rattle.picture_law.specs.Pictures.{Picture}
use Rattle.picture_law.specs.Runs.{between, signals_at}
use Rattle.picture_law.specs.Sections.{section_of}
use Rattle.damage_model.specs.Marks.{answer, is_opening, last_step, marks}
use Rattle.damage_law.specs.Asked.{HoldsLine}
use Rattle.bt878_contract.specs.Pictures.{ArrivesUpTo, IsCompiled}

-- where a picture arrives up to step k, and this is the field's last signal, every row of the field is whole
abbrev pub HasArrivedRows : State → List Step → Type 0
HasArrivedRows first steps =
    (d : Desc) (field : Parity) (picture : Picture) (j k : ℕ) → IsCompiled first.program d field picture →
    ArrivesUpTo d field picture first steps j k → last_step (is_signal (section_of d field)) first steps ≡ Some k →
    answer d field first steps ≡ Some (replicate (field_height d field) true)

-- a valid description whose program is this one, and a field that it describes
pub record IsFieldOf (program : RiscProgram) (d : Desc) (field : Parity) : Type 0 where
  pub description : IsDescription d
  pub valid : IsValid d
  pub same : program ≡ compiled d
  pub described : describes d.fields field ≡ true

-- step k is a signal of the field, which was last opened at step j before it
pub record IsSignalFrom (d : Desc) (field : Parity) (first : State) (steps : List Step) (j k : ℕ) : Type 0 where
  pub there : k < length steps
  pub signal : signals_at (section_of d field) first steps k ≡ true
  pub opened : last_step (is_opening d field) first (take k steps) ≡ Some j

-- right after each signal of a field each row that is whole over the steps since its opening holds its line
abbrev pub HoldsWholeRows : State → List Step → Type 0
HoldsWholeRows first steps =
    (d : Desc) (field : Parity) (j k : ℕ) → IsFieldOf first.program d field → IsSignalFrom d field first steps j k →
    (q : Queue) (number : ℕ) →
    slice_index_or (marks d field (state_at first steps j) (between j k steps)) number false ≡ true →
    HoldsLine (section_begin d d.base field) d field q number (state_at first steps j) (between j k steps) (state_at first steps (k + 1))
