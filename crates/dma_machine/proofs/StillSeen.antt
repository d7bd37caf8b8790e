-- A turn that is seen to do nothing only counts, and that is seen wherever the machine stands still.
use Rattle.std.proofs.Common.{◌≡◌, ℕ, Bool, true, false, not, Option, Some, None, Ok, refl, sym, ap, ◌∙◌, if◌then◌else◌, ◌==◌}
use Rattle.std.specs.Prelude.{◌&&◌, is_none}
use Rattle.std.specs.List.{list_any}
use Rattle.risc_word.specs.declared.Code.{Code}
use Rattle.risc_word.specs.declared.Instr.{Instr}
use Rattle.risc_word.specs.declared.Instr.TheVariants.{Jump, Sync}
use Rattle.risc_word.specs.Words.{Reading, code_number}
use Rattle.fifo_model.specs.declared.Queue.{Queue}
use Rattle.fifo_model.specs.declared.Queue.TheVariants.{One, Two, Three}
use Rattle.machine_model.specs.declared.Demands.{Demands}
use Rattle.machine_model.specs.declared.Did.TheVariants.{GivenUp, Matched, Missed, Moved, Still}
use Rattle.machine_model.specs.declared.Job.{Job}
use Rattle.machine_model.specs.declared.Job.TheVariants.{Idle, Waiting, Running}
use Rattle.machine_model.specs.declared.Skipping.{Skipping}
use Rattle.machine_model.specs.declared.Skipping.TheVariants.{Nothing, ToEol, ToSync}
use Rattle.machine_model.specs.Paths.{fetch}
use Rattle.machine_model.specs.Seen.{address_before, applications, data_did, fetched_did, gives_up, instr_did, seen, seen_if, seen_in}
use Rattle.machine_model.specs.Seen.{seen_running, seen_served, waited_did}
use Rattle.machine_model.specs.States.{State}
use Rattle.machine_model.specs.Turns.{common_code, counted, is_done, is_served, lowest_stray, turn}
use Rattle.machine_model.proofs.BeforeTurns.{idle-IsFine}
use Rattle.dma_machine.specs.Counts.{acted, with_turns}
use Rattle.dma_machine.specs.Facts.{IsMachine}
use Rattle.dma_machine.specs.Stills.{is_still, none_served, works_still}
use Rattle.dma_machine.proofs.Counting.{turn-acted}
use Rattle.dma_machine.proofs.Standing.{none_lowest, still_acted}

data_acts : (skipping : Skipping) → data_did skipping ≡ Still → ⊥
data_acts Nothing e = cc
data_acts ToEol e = cc
data_acts ToSync e = cc

instr_acts : (instr : Instr) (skipping : Skipping) → instr_did instr skipping ≡ Still → ⊥
instr_acts (Jump ctl addr) skipping e = cc
instr_acts (Sync ctl resync code) skipping e = cc
instr_acts instr skipping e = data_acts skipping e

-- what is fetched does something
fetched_acts : (reading : Reading) (skipping : Skipping) (instr : Instr) (count : ℕ) → reading ≡ Ok (instr, count) →
    fetched_did reading skipping ≡ Still → ⊥
fetched_acts reading skipping instr count is e = instr_acts instr skipping (ap (λ r. fetched_did r skipping) (sym is) ∙ e)

met_acts : (awaited : Bool) → (if awaited then Matched else Missed) ≡ Still → ⊥
met_acts true e = cc
met_acts false e = cc

waits : (stray : Option Queue) (code : Option Code) (awaited : Code) → waited_did stray code awaited ≡ Still →
    (is_none stray && is_none code) ≡ true
waits (Some q) code awaited e = cc
waits None (Some code) awaited e = absurd (met_acts (code_number code == code_number awaited) e)
waits None None awaited e = refl

burst_acts : (gave_up : Bool) (q : Queue) → (if gave_up then GivenUp q else Moved q) ≡ Still → ⊥
burst_acts true q e = cc
burst_acts false q e = cc

served_acts : (q : Queue) (at : ℕ) (m : State) → (seen_served (Some q) at m).did ≡ Still → ⊥
served_acts q at m e = burst_acts (list_any gives_up (applications m.trigger q m)) q e

none_of : (one two three : Bool) (at : ℕ) (m : State) →
    (seen_served (if one then Some One else (if two then Some Two else (if three then Some Three else None))) at m).did ≡ Still →
    (not one && not two && not three) ≡ true
none_of true two three at m e = absurd (served_acts One at m e)
none_of false true three at m e = absurd (served_acts Two at m e)
none_of false false true at m e = absurd (served_acts Three at m e)
none_of false false false at m e = refl

running : (done : Bool) (at : ℕ) (ds : Demands) (m : State) → (seen_running done at ds m).did ≡ Still →
    (not done && none_served ds m) ≡ true
running true at ds m e = cc
running false at ds m e = none_of (is_served One ds m) (is_served Two ds m) (is_served Three ds m) at m e

module _ (m : State) (machine : IsMachine m) where
  in_job : (job : Job) → m.job ≡ job → (seen_in job m).did ≡ Still → works_still job m ≡ true
  in_job Idle is e =
      let fine = idle-IsFine m machine.sound machine.safe is in
      absurd (fetched_acts (fetch m.program m.pc) m.skipping fine.instr fine.length_in_words fine.stands e)
  in_job (Waiting ctl resync code) is e = waits (lowest_stray m.queues) (common_code m.queues) code e
  in_job (Running instr ds) is e = running (is_done ds) (address_before m.pc instr) ds m e

  still_if : (on : Bool) → (seen_if on m).did ≡ Still → (if on then works_still m.job m else true) ≡ true
  still_if false e = refl
  still_if true e = in_job m.job refl e

  pub seen-acted : (seen m).did ≡ Still → acted m ≡ m
  seen-acted e = still_acted m (still_if m.risc_on e)

-- where it stands still

waiting_still : (stray : Option Queue) (code : Option Code) (awaited : Code) → (is_none stray && is_none code) ≡ true →
    waited_did stray code awaited ≡ Still
waiting_still (Some q) code awaited e = absurd cc
waiting_still None (Some code) awaited e = absurd cc
waiting_still None None awaited e = refl

running_still : (done : Bool) (at : ℕ) (ds : Demands) (m : State) → (not done && none_served ds m) ≡ true →
    (seen_running done at ds m).did ≡ Still
running_still true at ds m e = absurd cc
running_still false at ds m e =
    ap (λ q. (seen_served q at m).did) (none_lowest (is_served One ds m) (is_served Two ds m) (is_served Three ds m) e)

job_still : (job : Job) (m : State) → works_still job m ≡ true → (seen_in job m).did ≡ Still
job_still Idle m e = absurd cc
job_still (Waiting ctl resync code) m e = waiting_still (lowest_stray m.queues) (common_code m.queues) code e
job_still (Running instr ds) m e = running_still (is_done ds) (address_before m.pc instr) ds m e

still_seen_if : (on : Bool) (m : State) → (if on then works_still m.job m else true) ≡ true → (seen_if on m).did ≡ Still
still_seen_if false m e = refl
still_seen_if true m e = job_still m.job m e

pub still_seen : (m : State) → is_still m ≡ true → (seen m).did ≡ Still
still_seen m e = still_seen_if m.risc_on m e

pub still_counts : (m : State) → is_still m ≡ true → turn m ≡ counted m
still_counts m e = turn-acted m ∙ ap (with_turns (counted m).turns) (still_acted m e)
