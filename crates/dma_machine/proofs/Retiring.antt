-- What is seen of a turn that retires an instruction.
use Rattle.std.proofs.Common.{◌≡◌, ℕ, Bool, true, false, Option, Some, None, Ok, Err, refl, if◌then◌else◌, ◌==◌}
use Rattle.std.specs.List.{list_any}
use Rattle.risc_word.specs.declared.Code.{Code}
use Rattle.risc_word.specs.declared.Instr.{Instr}
use Rattle.risc_word.specs.declared.Instr.TheVariants.{Jump, Sync}
use Rattle.risc_word.specs.Words.{Reading, code_number}
use Rattle.fifo_model.specs.declared.Queue.{Queue}
use Rattle.machine_model.specs.declared.Demands.{Demands}
use Rattle.machine_model.specs.declared.Did.TheVariants.{GivenUp, Matched, Missed, Moved, Retired}
use Rattle.machine_model.specs.declared.Job.{Job}
use Rattle.machine_model.specs.declared.Job.TheVariants.{Idle, Waiting, Running}
use Rattle.machine_model.specs.declared.Skipping.{Skipping}
use Rattle.machine_model.specs.declared.Skipping.TheVariants.{Nothing, ToEol, ToSync}
use Rattle.machine_model.specs.Paths.{fetch}
use Rattle.machine_model.specs.Seen.{address_before, applications, code_did, data_did, fetched_did, gives_up, instr_did, seen, seen_if}
use Rattle.machine_model.specs.Seen.{seen_in, seen_running, seen_served, waited_did}
use Rattle.machine_model.specs.States.{State}
use Rattle.machine_model.specs.Turns.{common_code, is_done, lowest_served, lowest_stray}
use Rattle.machine_model.proofs.InstrSeen.{seen-StandsAt}
use Rattle.dma_machine.specs.Facts.{IsMachine}
use Rattle.dma_machine.specs.Looks.{RetiresAt}

data_stays : (skipping : Skipping) → data_did skipping ≡ Retired → ⊥
data_stays Nothing e = cc
data_stays ToEol e = cc
data_stays ToSync e = cc

instr_stays : (instr : Instr) (skipping : Skipping) → instr_did instr skipping ≡ Retired → ⊥
instr_stays (Jump ctl addr) skipping e = cc
instr_stays (Sync ctl resync code) skipping e = cc
instr_stays instr skipping e = data_stays skipping e

fetched_stays : (reading : Reading) (skipping : Skipping) → fetched_did reading skipping ≡ Retired → ⊥
fetched_stays (Err fault) skipping e = cc
fetched_stays (Ok (instr, count)) skipping e = instr_stays instr skipping e

met_stays : (awaited : Bool) → (if awaited then Matched else Missed) ≡ Retired → ⊥
met_stays true e = cc
met_stays false e = cc

code_stays : (code : Option Code) (awaited : Code) → code_did code awaited ≡ Retired → ⊥
code_stays None awaited e = cc
code_stays (Some code) awaited e = met_stays (code_number code == code_number awaited) e

waited_stays : (stray : Option Queue) (code : Option Code) (awaited : Code) → waited_did stray code awaited ≡ Retired → ⊥
waited_stays (Some q) code awaited e = cc
waited_stays None code awaited e = code_stays code awaited e

burst_stays : (gave_up : Bool) (q : Queue) → (if gave_up then GivenUp q else Moved q) ≡ Retired → ⊥
burst_stays true q e = cc
burst_stays false q e = cc

served_stays : (q : Option Queue) (at : ℕ) (m : State) → (seen_served q at m).did ≡ Retired → ⊥
served_stays None at m e = cc
served_stays (Some q) at m e = burst_stays (list_any gives_up (applications m.trigger q m)) q e

-- a running instruction that is seen to retire has all that it asked for
running_done : (done : Bool) (at : ℕ) (ds : Demands) (m : State) → (seen_running done at ds m).did ≡ Retired → done ≡ true
running_done true at ds m e = refl
running_done false at ds m e = absurd (served_stays (lowest_served ds m) at m e)

module _ (m : State) (machine : IsMachine m) where
  in_job : (job : Job) → m.risc_on ≡ true → m.job ≡ job → (seen_in job m).did ≡ Retired → RetiresAt m (seen m).at
  in_job Idle on runs e = absurd (fetched_stays (fetch m.program m.pc) m.skipping e)
  in_job (Waiting ctl resync code) on runs e = absurd (waited_stays (lowest_stray m.queues) (common_code m.queues) code e)
  in_job (Running instr ds) on runs e =
      record {
        instr = instr;
        demands = ds;
        runs = runs;
        done = running_done (is_done ds) (address_before m.pc instr) ds m e;
        there = seen-StandsAt m instr ds machine.sound machine.safe runs on;
      }

  retired_if : (on : Bool) → m.risc_on ≡ on → (seen_if on m).did ≡ Retired → RetiresAt m (seen m).at
  retired_if false on e = cc
  retired_if true on e = in_job m.job on refl e

  -- the instruction that retires is at the address that is seen
  pub seen-RetiresAt : (seen m).did ≡ Retired → RetiresAt m (seen m).at
  seen-RetiresAt e = retired_if m.risc_on refl e
