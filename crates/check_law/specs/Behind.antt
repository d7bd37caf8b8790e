-- Between the end of a field and the next one nothing is stored.
use Rattle.std.specs.Prelude.{◌≡◌, ℕ, ◌+◌, ◌<◌, ◌≤◌, Bool, true, false, List, length}
use Rattle.irq_status.specs.declared.HostWrite.TheVariants.{Enable}
use Rattle.pixel_layout.specs.declared.Parity.{Parity}
use Rattle.machine_model.specs.declared.Job.{Job}
use Rattle.machine_model.specs.declared.Job.TheVariants.{Waiting}
use Rattle.machine_model.specs.Paths.{RiscProgram}
use Rattle.machine_model.specs.States.{first_state}
use Rattle.machine_model.specs.Steps.{Step, Host}
use Rattle.capture_desc.specs.declared.desc.Desc.{Desc}
use Rattle.picture_law.specs.Pictures.{Picture, After}
use Rattle.picture_law.specs.Runs.{ends_at, step_at}
use Rattle.check_law.specs.Laws.{Found, IsChecked}
use Rattle.check_law.specs.Runs.{IsEnded, state_of}

abbrev pub is_waiting : Job → Bool
is_waiting (Waiting ctl resync code) = true
is_waiting _ = false

-- the host sets no enable
abbrev pub IsNoEnable : Step → Type 0
IsNoEnable (Host (Enable fifo risc)) = ⊥
IsNoEnable _ = Unit {0}

-- Step k fetches the end of a field that the program is found to show, and up to place l the machine comes to no further
-- field: once it waits in a SYNC, it still does at l
pub record IsBehind (program : RiscProgram) (d : Desc) (field : Parity) (f : Found) (fill : ℕ) (steps : List Step) (k l : ℕ) : Type 0 where
  pub shown : IsChecked program d field f
  pub ended : ends_at f.end (first_state program fill) steps k ≡ true
  pub later : k < l
  pub there : l ≤ length steps
  pub enabled : (i : ℕ) → k < i → i < l → IsNoEnable (step_at steps i)
  pub unopened : (i : ℕ) → k < i → i < l → is_waiting (state_of program fill steps i).job ≡ true →
      is_waiting (state_of program fill steps (i + 1)).job ≡ true

-- so memory at l is that right after the end
abbrev pub NothingStoredBehind : Type 0
NothingStoredBehind = (program : RiscProgram) (d : Desc) (field : Parity) (f : Found) (fill : ℕ) (steps : List Step) (k l : ℕ) →
    IsBehind program d field f fill steps k l → (state_of program fill steps l).memory ≡ (state_of program fill steps (k + 1)).memory

-- Where the next field that arrives is shown as well, memory after its end is that of before with the one picture and
-- then the other, whichever of the two ends signals
abbrev pub RunShowsBoth : Type 0
RunShowsBoth = (program : RiscProgram) (d : Desc) (field other : Parity) (f g : Found) (picture next : Picture) (fill : ℕ)
    (steps : List Step) (j k i l : ℕ) → IsEnded program d field f picture fill steps j k → IsBehind program d field f fill steps k i →
    IsEnded program d other g next fill steps i l →
    After d field picture (state_of program fill steps j).memory (state_of program fill steps i).memory
    × After d other next (state_of program fill steps i).memory (state_of program fill steps (l + 1)).memory
