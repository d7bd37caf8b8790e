-- The law of the picture over the places of a run of a program that is found to show a field: place k is the moment
-- before step k.
use Rattle.std.specs.Prelude.{◌≡◌, ℕ, ◌+◌, ◌*◌, ◌<◌, ◌≤◌, false, All, List, length, Ok}
use Rattle.risc_word.specs.declared.Instr.{Instr}
use Rattle.fifo_model.specs.declared.Queue.{Queue}
use Rattle.fifo_model.specs.Queues.{queue_state}
use Rattle.pixel_layout.specs.declared.Parity.{Parity}
use Rattle.machine_model.specs.Paths.{RiscProgram, fetch}
use Rattle.machine_model.specs.States.{State, first_state}
use Rattle.machine_model.specs.Turns.{sets_fdsr}
use Rattle.machine_model.specs.Steps.{Step, Turn, state_at}
use Rattle.machine_model.specs.Safety.{IsStep}
use Rattle.capture_desc.specs.declared.desc.Desc.{Desc}
use Rattle.field_law.specs.Trails.{after_closing}
use Rattle.field_law.specs.Arrivals.{meeting, coming, entries_of, over_queues, turns_in}
use Rattle.picture_law.specs.Pictures.{Picture, After, IsPicture}
use Rattle.picture_law.specs.Runs.{IsFirstEnd, between, step_at}
use Rattle.check_law.specs.Laws.{Found, IsChecked, PictureArrives}

abbrev pub state_of : RiscProgram → ℕ → List Step → ℕ → State
state_of program fill steps place = state_at (first_state program fill) steps place

abbrev pub ArrivesAt : RiscProgram → Desc → Parity → Found → Picture → State → List Step → Type 0
ArrivesAt program d field f picture m steps = PictureArrives d field f picture m (meeting program steps)

-- a program that is found to show a field, a picture of the field, and steps
pub record IsCapture (program : RiscProgram) (d : Desc) (field : Parity) (f : Found) (picture : Picture) (steps : List Step) : Type 0 where
  pub shown : IsChecked program d field f
  pub pictured : IsPicture d field picture
  pub made : All IsStep steps

-- the first end of the field from place j on is step k, and the picture arrives at j over the steps j to k
pub record IsEnded (program : RiscProgram) (d : Desc) (field : Parity) (f : Found) (picture : Picture) (fill : ℕ) (steps : List Step)
    (j k : ℕ) : Type 0 where
  pub capture : IsCapture program d field f picture steps
  pub signal : IsFirstEnd f.end (first_state program fill) steps j k
  pub arrives : ArrivesAt program d field f picture (state_of program fill steps j) (between j (k + 1) steps)

-- memory after step k is that at place j with the picture
abbrev pub RunShowsPicture : Type 0
RunShowsPicture =
    (program : RiscProgram) (d : Desc) (field : Parity) (f : Found) (picture : Picture) (fill : ℕ) (steps : List Step) (j k : ℕ) →
    IsEnded program d field f picture fill steps j k →
    After d field picture (state_of program fill steps j).memory (state_of program fill steps (k + 1)).memory

-- no turn from j to k sets FDSR, whether or not the bit is set already
abbrev pub RunShowsNoFault : Type 0
RunShowsNoFault =
    (program : RiscProgram) (d : Desc) (field : Parity) (f : Found) (picture : Picture) (fill : ℕ) (steps : List Step) (j k i : ℕ) →
    IsEnded program d field f picture fill steps j k → j ≤ i → i ≤ k → step_at steps i ≡ Turn →
    sets_fdsr (state_of program fill steps i) ≡ false

-- step k applies the control bits of the JUMP that ends the field
abbrev pub RunEndsWithClosing : Type 0
RunEndsWithClosing =
    (program : RiscProgram) (d : Desc) (field : Parity) (f : Found) (picture : Picture) (fill : ℕ) (steps : List Step) (j k : ℕ) →
    IsEnded program d field f picture fill steps j k → (instr : Instr) (count : ℕ) → fetch program f.end ≡ Ok (instr, count) →
    (state_of program fill steps (k + 1)).interrupts ≡ after_closing instr (state_of program fill steps k).interrupts

-- where the picture arrives at place j over the steps up to place l, and at place i all entries up to the field's last
-- were pushed, the field ends before l once there are so many turns from i to l
abbrev pub RunEndsInTime : Type 0
RunEndsInTime =
    (program : RiscProgram) (d : Desc) (field : Parity) (f : Found) (picture : Picture) (fill : ℕ) (steps : List Step) (j i l : ℕ) →
    IsCapture program d field f picture steps → j ≤ i → i ≤ l → l ≤ length steps →
    (arrives : ArrivesAt program d field f picture (state_of program fill steps j) (between j l steps)) →
    ((q : Queue) → entries_of arrives.before arrives.entries q
    ≤ length (queue_state q (state_of program fill steps j).queues).entries + length (coming (meeting program (between j i steps)) q)) →
    5 * (f.count + 2) + over_queues (entries_of arrives.before arrives.entries) ≤ turns_in (meeting program (between i l steps)) →
    (k : ℕ) × IsFirstEnd f.end (first_state program fill) steps j k × (k < l)
