-- The law of the picture over the places of a run of a description's program: place k is the moment before step k.
use Rattle.std.specs.Prelude.{◌≡◌, ℕ, ◌+◌, ◌-◌, ◌*◌, ◌<◌, ◌≤◌, Bool, true, false, All, List, length, take, drop, slice_index_or}
use Rattle.fifo_model.specs.declared.Queue.{Queue}
use Rattle.fifo_model.specs.Queues.{queue_state}
use Rattle.page_table.specs.Blocks.{chunks_of}
use Rattle.pixel_layout.specs.declared.Parity.{Parity}
use Rattle.machine_model.specs.States.{State, first_state}
use Rattle.machine_model.specs.Turns.{sets_fdsr}
use Rattle.machine_model.specs.Steps.{Step, Turn, run, state_at}
use Rattle.machine_model.specs.Safety.{IsStep, IsOrderly}
use Rattle.capture_desc.specs.declared.desc.Desc.{Desc}
use Rattle.picture_model.specs.Described.{IsDescription, describes}
use Rattle.picture_model.specs.Geometry.{IsValid}
use Rattle.picture_model.specs.Programs.{compiled, section_begin, section_next, size}
use Rattle.field_law.specs.Sections.{Section, closing_at}
use Rattle.field_law.specs.Arrivals.{Arrives, meeting, coming, entries_of, over_queues, is_end, turns_in}
use Rattle.picture_law.specs.Pictures.{Picture, After, IsField, IsPicture}
use Rattle.picture_law.specs.Sections.{section_of}
use Rattle.picture_law.specs.Laws.{Captures, TellsField}

-- a state of a run of a description's program: its memory is what the program may write
pub record RunsCompiled (d : Desc) (m : State) : Type 0 where
  pub program : m.program ≡ compiled d
  pub orderly : IsOrderly m
  pub chunks : chunks_of m.memory ≡ m.program.grants

abbrev pub RunsAreMet : Type 0
RunsAreMet = (d : Desc) (fill : ℕ) (steps : List Step) → All IsStep steps → RunsCompiled d (run (first_state (compiled d) fill) steps)

-- steps, and a picture of a field that a valid description describes
pub record IsCapture (d : Desc) (field : Parity) (picture : Picture) (steps : List Step) : Type 0 where
  pub description : IsDescription d
  pub valid : IsValid d
  pub described : describes d.fields field ≡ true
  pub pictured : IsPicture d field picture
  pub made : All IsStep steps

-- the picture arrives at its section of the program, over steps that meet the program
abbrev pub ArrivesAt : Desc → Parity → Picture → State → List Step → Type 0
ArrivesAt d field picture m steps = Arrives (section_of d field) (IsField d field picture) m (meeting (compiled d) steps)

-- so the law of the picture speaks of it
abbrev pub CapturesOf : Desc → Parity → Picture → State → List Step → Type 0
CapturesOf d field picture m steps =
    Captures d field (section_begin d d.base field) (section_next d d.base d.base field) picture m (meeting (compiled d) steps)

abbrev pub CompiledIsMet : Type 0
CompiledIsMet =
    (d : Desc) (field : Parity) (picture : Picture) (m : State) (steps : List Step) → IsCapture d field picture steps → RunsCompiled d m →
    ArrivesAt d field picture m steps → CapturesOf d field picture m steps

-- the steps from a place up to another, and the step at a place
abbrev pub between : ℕ → ℕ → List Step → List Step
between from to steps = take (to - from) (drop from steps)

abbrev pub step_at : List Step → ℕ → Step
step_at steps k = slice_index_or steps k Turn

-- whether step k of a run ends a field: a turn that fetches the instruction at an address
abbrev pub ends_at : ℕ → State → List Step → ℕ → Bool
ends_at address m steps k = is_end address (state_at m steps k) (step_at steps k)

-- the first such step from place j on is step k
pub record IsFirstEnd (address : ℕ) (m : State) (steps : List Step) (j k : ℕ) : Type 0 where
  pub later : j ≤ k
  pub there : k < length steps
  pub signal : ends_at address m steps k ≡ true
  pub first : (i : ℕ) → j ≤ i → i < k → ends_at address m steps i ≡ false

-- a section's is its signal
abbrev pub signals_at : Section → State → List Step → ℕ → Bool
signals_at s m steps k = ends_at (closing_at s) m steps k

abbrev pub IsFirstSignal : Section → State → List Step → ℕ → ℕ → Type 0
IsFirstSignal s m steps j k = IsFirstEnd (closing_at s) m steps j k

-- the state at a place of a run of the description's program from the first state
abbrev pub state_of : Desc → ℕ → List Step → ℕ → State
state_of d fill steps place = state_at (first_state (compiled d) fill) steps place

-- the first signal of the field after place j is step k, and the picture arrives at j over the steps j to k
pub record IsSignalled (d : Desc) (field : Parity) (picture : Picture) (fill : ℕ) (steps : List Step) (j k : ℕ) : Type 0 where
  pub capture : IsCapture d field picture steps
  pub signal : IsFirstSignal (section_of d field) (first_state (compiled d) fill) steps j k
  pub arrives : ArrivesAt d field picture (state_of d fill steps j) (between j (k + 1) steps)

-- memory after step k is that at place j with the picture
abbrev pub RunShowsPicture : Type 0
RunShowsPicture =
    (d : Desc) (field : Parity) (picture : Picture) (fill : ℕ) (steps : List Step) (j k : ℕ) → IsSignalled d field picture fill steps j k →
    After d field picture (state_of d fill steps j).memory (state_of d fill steps (k + 1)).memory

-- no turn from j to k sets FDSR, whether or not the bit is set already
abbrev pub RunShowsNoFault : Type 0
RunShowsNoFault =
    (d : Desc) (field : Parity) (picture : Picture) (fill : ℕ) (steps : List Step) (j k i : ℕ) →
    IsSignalled d field picture fill steps j k →
    j ≤ i → i ≤ k → step_at steps i ≡ Turn → sets_fdsr (state_of d fill steps i) ≡ false

-- after step k RISCI is set, and the RISC status is that of the field
abbrev pub RunTellsField : Type 0
RunTellsField =
    (d : Desc) (field : Parity) (picture : Picture) (fill : ℕ) (steps : List Step) (j k : ℕ) → IsSignalled d field picture fill steps j k →
    TellsField field (state_of d fill steps (k + 1))

-- where the picture arrives at place j over the steps up to place l, and at place i all entries up to the field's last
-- were pushed, the first signal is before l once there are so many turns from i to l
abbrev pub RunSignalsInTime : Type 0
RunSignalsInTime =
    (d : Desc) (field : Parity) (picture : Picture) (fill : ℕ) (steps : List Step) (j i l : ℕ) → IsCapture d field picture steps →
    j ≤ i → i ≤ l → l ≤ length steps → (arrives : ArrivesAt d field picture (state_of d fill steps j) (between j l steps)) →
    ((q : Queue) → entries_of arrives.before arrives.entries q
    ≤ length (queue_state q (state_of d fill steps j).queues).entries + length (coming (meeting (compiled d) (between j i steps)) q)) →
    5 * size d field + over_queues (entries_of arrives.before arrives.entries) ≤ turns_in (meeting (compiled d) (between i l steps)) →
    (k : ℕ) × IsFirstSignal (section_of d field) (first_state (compiled d) fill) steps j k × (k < l)
