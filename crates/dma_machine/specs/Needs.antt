-- What the code doesn't check at run time, since it follows from the facts of the machine's type.
use Rattle.std.specs.Prelude.{◌≡◌, ◌^◌, ◌≤◌, ◌<◌, ℕ, Bool, true, false, List, Option, Some, None, Ok, Err}
use Rattle.risc_word.specs.declared.Ctl.{Ctl}
use Rattle.risc_word.specs.declared.Instr.{Instr}
use Rattle.risc_word.specs.declared.Instr.TheVariants.{Jump, Sync}
use Rattle.risc_word.specs.Words.{Reading}
use Rattle.page_table.specs.Grants.{Chunk}
use Rattle.page_table.specs.Blocks.{chunks_of}
use Rattle.machine_model.specs.declared.Demands.{Demands}
use Rattle.machine_model.specs.declared.Job.{Job}
use Rattle.machine_model.specs.declared.Job.TheVariants.{Idle, Waiting, Running}
use Rattle.machine_model.specs.declared.Skipping.{Skipping}
use Rattle.machine_model.specs.declared.Skipping.TheVariants.{Nothing, ToEol, ToSync}
use Rattle.machine_model.specs.Paths.{fetch, target_before, data_cause, demands_cause}
use Rattle.machine_model.specs.States.{State}

-- the control bits are those of a decoded instruction
abbrev pub CtlFits : Ctl → Type 0
CtlFits ctl = (ctl.set < 16) × (ctl.reset < 16)

-- numbers in the sizes that the code has for them
pub record AreParts (trigger : ℕ) (waits runs : Ctl) : Type 0 where
  pub some : 1 ≤ trigger
  pub waiting : CtlFits waits
  pub running : CtlFits runs

-- a data instruction can begin, unless it is passed over
abbrev pub CanBegin : Skipping → List Chunk → Instr → Option ℕ → Type 0
CanBegin Nothing grants instr target = data_cause grants instr (target_before instr target) ≡ None
CanBegin ToEol grants instr target = Unit {0}
CanBegin ToSync grants instr target = Unit {0}

abbrev pub CanExecute : Instr → State → Type 0
CanExecute (Jump ctl addr) m = Unit {0}
CanExecute (Sync ctl resync code) m = Unit {0}
CanExecute instr m = CanBegin m.skipping m.program.grants instr m.target

abbrev pub CanFetch : Reading → State → Type 0
CanFetch (Err fault) m = Unit {0}
CanFetch (Ok (instr, count)) m = CanExecute instr m

-- an address up to 2^32, or none
abbrev pub IsAddress : Option ℕ → Type 0
IsAddress None = Unit {0}
IsAddress (Some address) = address ≤ 2 ^ 32

-- what a turn needs, by the job
pub record CanRun (m : State) (instr : Instr) (ds : Demands) : Type 0 where
  pub target : IsAddress m.target
  pub within : demands_cause (chunks_of m.memory) ds ≡ None

abbrev pub CanWork : Job → State → Type 0
CanWork Idle m = CanFetch (fetch m.program m.pc) m
CanWork (Waiting ctl resync code) m = Unit {0}
CanWork (Running instr ds) m = CanRun m instr ds

-- an application to a queue was made, as one of the definition's
abbrev pub Applied : Option State → Bool → State → State → Type 0
Applied None made after before = (made ≡ false) × (after ≡ before)
Applied (Some wanted) made after before = (made ≡ true) × (after ≡ wanted)
