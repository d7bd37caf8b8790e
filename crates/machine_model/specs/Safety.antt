-- What holds between any two steps of a machine, and what more where its program is sound.
use Rattle.std.specs.Prelude.{◌≡◌, ℕ, ◌+◌, ◌*◌, ◌<◌, false, IsTrue, All, Option, None, Ok}
use Rattle.risc_word.specs.declared.Instr.{Instr}
use Rattle.sync_status.specs.Statuses.{kind_of, is_control}
use Rattle.fifo_model.specs.Queues.{IsFifo}
use Rattle.irq_status.specs.Register.{has_ocerr}
use Rattle.page_table.specs.Grants.{granted}
use Rattle.page_table.specs.Blocks.{chunks_of}
use Rattle.machine_model.specs.declared.Demands.{Demands}
use Rattle.machine_model.specs.declared.Job.{Job}
use Rattle.machine_model.specs.declared.Job.TheVariants.{Idle, Waiting, Running}
use Rattle.machine_model.specs.declared.Skipping.{Skipping}
use Rattle.machine_model.specs.declared.Skipping.TheVariants.{Nothing, ToEol, ToSync}
use Rattle.machine_model.specs.Paths.{RiscProgram, Place, is_word, fetch, path, is_data, target_before, demands_cause}
use Rattle.machine_model.specs.States.{State}
use Rattle.machine_model.specs.Steps.{Step, Push}
use Rattle.machine_model.specs.Accesses.{writes, fetches}

-- a step as the decoder makes it: a data push is no control code
abbrev pub IsStep : Step → Type 0
IsStep (Push q entry) = is_control (kind_of entry.status) ≡ false
IsStep _ = Unit {0}

-- Whatever the program: in a skip there is no target
abbrev pub NoTargetIn : Skipping → Option ℕ → Type 0
NoTargetIn Nothing target = Unit {0}
NoTargetIn ToEol target = target ≡ None
NoTargetIn ToSync target = target ≡ None

-- nothing is skipped while a SYNC waits, without a target, or a data instruction runs
abbrev pub JobFits : Skipping → Option ℕ → Job → Type 0
JobFits skipping target Idle = NoTargetIn skipping target
JobFits skipping target (Waiting ctl resync code) = (skipping ≡ Nothing) × (target ≡ None)
JobFits skipping target (Running instr ds) = (skipping ≡ Nothing) × IsTrue (is_data instr)

-- what every program keeps: beside this, what holds of the queues (no more is taken of a front than it has, and the
-- control codes of the three are the same, in order), and a trigger point above 0
pub record IsOrderly (m : State) : Type 0 where
  pub job : JobFits m.skipping m.target m.job
  pub queues : IsFifo m.queues
  pub triggered : 0 < m.trigger

-- Where the program is sound. Idle without a skip the target is the place's; in a skip there is none
abbrev pub TargetAt : Skipping → Option ℕ → Option ℕ → Type 0
TargetAt Nothing target there = target ≡ there
TargetAt ToEol target there = target ≡ None
TargetAt ToSync target there = target ≡ None

-- a data instruction runs: it is that of the place, pc is the address after it, nothing is skipped, and what it
-- still writes is granted
pub record RunsAt (program : RiscProgram) (place : Place) (pc : ℕ) (skipping : Skipping) (target : Option ℕ)
    (instr : Instr) (ds : Demands) : Type 0 where
  pub length_in_words : ℕ
  pub stands : fetch program place.pc ≡ Ok (instr, length_in_words)
  pub moves_data : IsTrue (is_data instr)
  pub after : pc ≡ place.pc + 4 * length_in_words
  pub acting : target ≡ target_before instr place.target
  pub unskipped : skipping ≡ Nothing
  pub within : demands_cause program.grants ds ≡ None

-- where the machine is, by its job: at this place of the path
abbrev pub JobAt : RiscProgram → Place → ℕ → Skipping → Option ℕ → Job → Type 0
JobAt program place pc skipping target Idle = (pc ≡ place.pc) × TargetAt skipping target place.target
JobAt program place pc skipping target (Waiting ctl resync code) =
    (pc ≡ place.pc) × (skipping ≡ Nothing) × (target ≡ None) × (place.target ≡ None)
JobAt program place pc skipping target (Running instr ds) = RunsAt program place pc skipping target instr ds

pub record IsOnPath (m : State) : Type 0 where
  pub number : ℕ
  pub there : JobAt m.program (path m.program number) m.pc m.skipping m.target m.job

-- the machine is on its program's path, its memory is what the program may write, and it never saw a program error
pub record IsSafe (m : State) : Type 0 where
  pub on_path : IsOnPath m
  pub chunks : chunks_of m.memory ≡ m.program.grants
  pub no_error : has_ocerr m.interrupts ≡ false
  pub orderly : IsOrderly m

-- the turn at a state stays within granted memory and the program
pub record StaysInside (m : State) : Type 0 where
  pub written : All (λ address. IsTrue (granted m.program.grants address)) (writes m)
  pub read : All (λ address. IsTrue (is_word m.program address)) (fetches m)

-- a state in a run of this program: safe, its turn stays inside, and OCERR is 0. That the turn stores nowhere but at
-- `writes` is the law `turns_store_what_is_listed`, and that it reads no word but those at `fetches` is
-- `turns_read_what_is_listed`
pub record IsInside (program : RiscProgram) (m : State) : Type 0 where
  pub same : m.program ≡ program
  pub safe : IsSafe m
  pub inside : StaysInside m
  pub no_error : has_ocerr m.interrupts ≡ false
