-- The fields of a generated stream, and when they arrive.
use Rattle.std.specs.Prelude.{◌≡◌, ℕ, ◌+◌, ◌*◌, ◌<◌, ◌≤◌, true, All, List, [], ◌∷◌, ◌++◌, length}
use Rattle.std.specs.List.{flat_map}
use Rattle.fifo_model.specs.declared.Entry.{Entry}
use Rattle.fifo_model.specs.declared.Queue.{Queue}
use Rattle.fifo_model.specs.Queues.{queue_state}
use Rattle.pixel_layout.specs.declared.Parity.{Parity}
use Rattle.pixel_layout.specs.declared.Parity.TheVariants.{Top, Bottom}
use Rattle.machine_model.specs.declared.Job.TheVariants.{Waiting}
use Rattle.machine_model.specs.States.{State, first_state}
use Rattle.machine_model.specs.Steps.{Step}
use Rattle.capture_desc.specs.declared.desc.Desc.{Desc}
use Rattle.capture_desc.specs.declared.desc.Fields.{Fields}
use Rattle.capture_desc.specs.declared.desc.Fields.TheVariants as fields
use Rattle.picture_model.specs.Described.{IsDescription, describes}
use Rattle.picture_model.specs.Geometry.{IsValid}
use Rattle.picture_model.specs.Programs.{no_control, vertical, compiled}
use Rattle.field_stream.specs.Generator.{first_number}
use Rattle.field_stream.specs.Pushes.{Push, field_pushes, stream_pushes}
use Rattle.picture_law.specs.Pictures.{After, Picture}
use Rattle.field_law.specs.Arrivals.{AreKept, HasCode, meeting, pushed_in}
use Rattle.picture_law.specs.Sections.{section_of}
use Rattle.picture_law.specs.Runs.{ArrivesAt, IsFirstSignal, IsSignalled, between, state_of}
use Rattle.generated_law.specs.Drawn.{drawn_picture, drawn_steps, number_behind}

-- the steps of the stream of so many frames of a description, from a seed
abbrev pub stream_steps : Desc → ℕ → ℕ → List Step
stream_steps d seed frames = drawn_steps (first_number seed) (stream_pushes d frames)

-- the pushes before a field of a frame; frames are counted from 0
abbrev pub fields_before : Fields → Parity → List Parity
fields_before fields.Both Bottom = Top ∷ []
fields_before _ field = []

abbrev pub pushes_before : Desc → ℕ → Parity → List Push
pushes_before d frame field = stream_pushes d frame ++ flat_map (field_pushes d) (fields_before d.fields field)

-- the picture that is drawn for it
abbrev pub stream_picture : Desc → ℕ → ℕ → Parity → Picture
stream_picture d seed frame field = drawn_picture d field (number_behind (first_number seed) (pushes_before d frame field))

-- the place of its first push, and that behind its last: each push and its turns are 17 steps
abbrev pub place_of : Desc → ℕ → Parity → ℕ
place_of d frame field = 17 * length (pushes_before d frame field)

abbrev pub place_behind : Desc → ℕ → Parity → ℕ
place_behind d frame field = place_of d frame field + 17 * length (field_pushes d field)

-- The machine waits in the opening of a field; of the field each queue holds just what some steps pushed, behind entries
-- without the field's vertical code
pub record Awaits (d : Desc) (field : Parity) (m : State) (begun : List Step) : Type 0 where
  pub fifo_on : m.fifo_on ≡ true
  pub risc_on : m.risc_on ≡ true
  pub waits : m.job ≡ Waiting no_control true (vertical field)
  pub there : m.pc ≡ (section_of d field).at
  pub before : Queue → List Entry
  pub held : (q : Queue) → (queue_state q m.queues).entries ≡ before q ++ pushed_in begun q
  pub unmarked : (q : Queue) → All (λ entry. HasCode (vertical field) entry → ⊥) (before q)

-- a field that the stream of so many frames of a valid description has
pub record HasField (d : Desc) (frames frame : ℕ) (field : Parity) : Type 0 where
  pub description : IsDescription d
  pub valid : IsValid d
  pub described : describes d.fields field ≡ true
  pub within : frame < frames

-- the steps from the one place to the other are those of its pushes
abbrev pub FieldsStand : Type 0
FieldsStand = (d : Desc) (seed frames frame : ℕ) (field : Parity) → HasField d frames frame field →
    between (place_of d frame field) (place_behind d frame field) (stream_steps d seed frames)
    ≡ drawn_steps (number_behind (first_number seed) (pushes_before d frame field)) (field_pushes d field)

-- it arrives over the steps from j to l: at j the machine awaits it, its last push is before l, and no push is lost
abbrev pub FieldsArrive : Type 0
FieldsArrive = (d : Desc) (seed frames frame : ℕ) (field : Parity) (m : State) (j l : ℕ) → HasField d frames frame field →
    place_of d frame field ≤ j → j ≤ l → place_behind d frame field ≤ l + 16 →
    Awaits d field m (between (place_of d frame field) j (stream_steps d seed frames)) →
    AreKept m (meeting (compiled d) (between j l (stream_steps d seed frames))) →
    ArrivesAt d field (stream_picture d seed frame field) m (between j l (stream_steps d seed frames))

-- the same in a run of the compiled program from the first state, where step k is the first signal of the field after j
pub record IsTaken (d : Desc) (seed frames frame : ℕ) (field : Parity) (fill j k : ℕ) : Type 0 where
  pub has : HasField d frames frame field
  pub later : place_of d frame field ≤ j
  pub pushed : place_behind d frame field ≤ k + 17
  pub awaits : Awaits d field (state_of d fill (stream_steps d seed frames) j)
      (between (place_of d frame field) j (stream_steps d seed frames))
  pub kept : AreKept (state_of d fill (stream_steps d seed frames) j)
      (meeting (compiled d) (between j (k + 1) (stream_steps d seed frames)))
  pub signal : IsFirstSignal (section_of d field) (first_state (compiled d) fill) (stream_steps d seed frames) j k

abbrev pub FieldsAreSignalled : Type 0
FieldsAreSignalled = (d : Desc) (seed frames frame : ℕ) (field : Parity) (fill j k : ℕ) → IsTaken d seed frames frame field fill j k →
    IsSignalled d field (stream_picture d seed frame field) fill (stream_steps d seed frames) j k

-- so memory after step k is that at place j with the picture that was drawn
abbrev pub PicturesAreShown : Type 0
PicturesAreShown = (d : Desc) (seed frames frame : ℕ) (field : Parity) (fill j k : ℕ) → IsTaken d seed frames frame field fill j k →
    After d field (stream_picture d seed frame field) (state_of d fill (stream_steps d seed frames) j).memory
    (state_of d fill (stream_steps d seed frames) (k + 1)).memory
