-- What a run promises of the pictures that it captures, where its program shows a field of a description. Place k is the
-- moment before step k.
use Rattle.std.specs.Prelude.{◌≡◌, ℕ, ◌+◌, ◌*◌, ◌<◌, ◌≤◌, true, false, List, length, Ok}
use Rattle.risc_word.specs.declared.Instr.{Instr}
use Rattle.fifo_model.specs.declared.Queue.{Queue}
use Rattle.fifo_model.specs.Queues.{queue_state}
use Rattle.pixel_layout.specs.declared.Parity.{Parity}
use Rattle.machine_model.specs.Paths.{RiscProgram, fetch}
use Rattle.machine_model.specs.States.{State}
use Rattle.machine_model.specs.Turns.{sets_fdsr}
use Rattle.machine_model.specs.Steps.{Step, Turn, state_at}
use Rattle.capture_desc.specs.declared.desc.Desc.{Desc}
use Rattle.picture_model.specs.Described.{IsDescription, describes}
use Rattle.picture_model.specs.Geometry.{IsValid}
use Rattle.picture_model.specs.Programs.{compiled}
use Rattle.field_law.specs.Trails.{after_closing}
use Rattle.field_law.specs.Arrivals.{meeting, coming, entries_of, over_queues, turns_in}
use Rattle.picture_law.specs.Pictures.{Picture, IsPicture, After}
use Rattle.picture_law.specs.Sections.{section_of}
use Rattle.picture_law.specs.Laws.{TellsField}
use Rattle.picture_law.specs.Runs.{ArrivesAt, IsFirstEnd, IsFirstSignal, between, step_at}
use Rattle.check_law.specs.Laws.{Found, IsChecked}
use Rattle.check_law.specs.Runs.{ArrivesAt as ArrivesAtOpening}

-- ---- every program that shows a field

-- the program shows the field of a description, from an opening on its path to what ends the field there, and this is a
-- picture of the field
pub record ShowsField (program : RiscProgram) (d : Desc) (field : Parity) (f : Found) (picture : Picture) : Type 0 where
  pub shows : IsChecked program d field f
  pub pictured : IsPicture d field picture

-- the first end of the field after place j is step k, and the picture arrives at j over the steps j to k
pub record ArrivesUpToEnd (d : Desc) (field : Parity) (f : Found) (picture : Picture) (first : State) (steps : List Step)
    (j k : ℕ) : Type 0 where
  pub ends : IsFirstEnd f.end first steps j k
  pub arrives : ArrivesAtOpening first.program d field f picture (state_at first steps j) (between j (k + 1) steps)

-- memory is that of before with the picture, and the control bits of the JUMP that ends the field are applied
pub record HasPicture (program : RiscProgram) (d : Desc) (field : Parity) (f : Found) (picture : Picture)
    (before last now : State) : Type 0 where
  pub memory : After d field picture before.memory now.memory
  pub closing : (instr : Instr) (words : ℕ) → fetch program f.end ≡ Ok (instr, words) → now.interrupts ≡ after_closing instr last.interrupts

-- after step k the picture is shown over the memory at place j
abbrev pub ShowsPictures : State → List Step → Type 0
ShowsPictures first steps =
    (d : Desc) (field : Parity) (f : Found) (picture : Picture) (j k : ℕ) → ShowsField first.program d field f picture →
    ArrivesUpToEnd d field f picture first steps j k →
    HasPicture first.program d field f picture (state_at first steps j) (state_at first steps k) (state_at first steps (k + 1))

-- no turn from j to k sets FDSR, whether or not the bit is set already
abbrev pub ShowsNoFault : State → List Step → Type 0
ShowsNoFault first steps =
    (d : Desc) (field : Parity) (f : Found) (picture : Picture) (j k i : ℕ) → ShowsField first.program d field f picture →
    ArrivesUpToEnd d field f picture first steps j k → j ≤ i → i ≤ k → step_at steps i ≡ Turn → sets_fdsr (state_at first steps i) ≡ false

-- The picture arrives at j over the steps up to l, and all entries up to the field's last were pushed before i. Then the
-- field ends before l once there are so many turns from i to l: five for each instruction from the opening to the end, these
-- two among them, and one for each entry.
abbrev pub EndsInTime : State → List Step → Type 0
EndsInTime first steps =
    (d : Desc) (field : Parity) (f : Found) (picture : Picture) (j i l : ℕ) → ShowsField first.program d field f picture →
    j ≤ i → i ≤ l → l ≤ length steps →
    (arrives : ArrivesAtOpening first.program d field f picture (state_at first steps j) (between j l steps)) →
    ((q : Queue) → entries_of arrives.before arrives.entries q
    ≤ length (queue_state q (state_at first steps j).queues).entries + length (coming (meeting first.program (between j i steps)) q)) →
    5 * (f.count + 2) + over_queues (entries_of arrives.before arrives.entries) ≤ turns_in (meeting first.program (between i l steps)) →
    (k : ℕ) × IsFirstEnd f.end first steps j k × (k < l)

-- ---- compiled programs

-- a valid description whose program is this one, a field that it describes, and a picture of the field
pub record IsCompiled (program : RiscProgram) (d : Desc) (field : Parity) (picture : Picture) : Type 0 where
  pub description : IsDescription d
  pub valid : IsValid d
  pub same : program ≡ compiled d
  pub described : describes d.fields field ≡ true
  pub pictured : IsPicture d field picture

-- the first signal of the field after place j is step k, and the picture arrives at j over the steps j to k
pub record ArrivesUpTo (d : Desc) (field : Parity) (picture : Picture) (first : State) (steps : List Step) (j k : ℕ) : Type 0 where
  pub signal : IsFirstSignal (section_of d field) first steps j k
  pub arrives : ArrivesAt d field picture (state_at first steps j) (between j (k + 1) steps)

-- memory is that of before with the picture, RISCI is set, and the RISC status is that of the field
pub record IsShown (d : Desc) (field : Parity) (picture : Picture) (before now : State) : Type 0 where
  pub memory : After d field picture before.memory now.memory
  pub told : TellsField field now

-- after step k the picture is shown over the memory at place j
abbrev pub ShowsSignalledPictures : State → List Step → Type 0
ShowsSignalledPictures first steps =
    (d : Desc) (field : Parity) (picture : Picture) (j k : ℕ) → IsCompiled first.program d field picture →
    ArrivesUpTo d field picture first steps j k → IsShown d field picture (state_at first steps j) (state_at first steps (k + 1))
