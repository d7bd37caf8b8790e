-- The steps of a stream are steps as a decoder makes them.
use Rattle.std.proofs.Common.{◌≡◌, ℕ, zero, suc, ◌+◌, ◌-◌, true, false, Bool, List, [], ◌∷◌, length, take, drop, Option, Some, None, Result}
use Rattle.std.proofs.Common.{Ok, Err, arith, ap, subst}
use Rattle.std.specs.List.{All}
use Rattle.std.specs.Prelude.{nat_lt}
use Rattle.std.proofs.lemmas.List.Elements.{All-nil, All-cons, All-head, All-tail, All-append, All-replicate}
use Rattle.machine_model.specs.Steps as machine
use Rattle.machine_model.specs.Safety.{IsStep}
use Rattle.capture_file.specs.declared.FileFault.{FileFault}
use Rattle.capture_file.specs.declared.Step.{Step}
use Rattle.capture_file.specs.declared.Step.TheVariants.{Push, Control, Turns, Host, Patch}
use Rattle.capture_file.specs.declared.records.Form.{Form}
use Rattle.capture_file.specs.declared.records.Form.TheVariants.{Bfs1, Bfs2, Bfs3}
use Rattle.capture_file.specs.declared.records.Found.{Found}
use Rattle.capture_file.specs.declared.records.Found.TheVariants.{Cut, Wrong, Last, Whole}
use Rattle.capture_file.specs.Records.{StepFits, FoundFits}
use Rattle.capture_file.specs.Streams.{Reading, reading, with_step, Ending, Unfinished, Ended, Bad, after_end, fault_at, first_trigger}
use Rattle.capture_file.specs.Streams.{turns_of, atomic, steps_run, record_at, records, opened}
use Rattle.capture_file.specs.Streams.{opened_by, judged, within_if, stream_of, form_of, number_at, whole_file, steps_of}
use Rattle.capture_file.proofs.Fields.{record_at-fits}
use Rattle.stream_play.specs.Plays.{longest_stream}

abbrev Fit : Reading → Type 0
Fit r = All StepFits r.steps

found_fit : (found : Found) (form : Form) (turns place : ℕ) (rest : List ℕ) → FoundFits found →
    ((t n : ℕ) → Fit (records form t (place + 1) n rest)) →
    Fit
    (elim found as (λ _. Reading) [
      | Cut ↦ reading [] Unfinished
      | Wrong from to kind ↦ reading [] (Bad (fault_at (place + from) kind))
      | Last ↦ reading [] (after_end (place + 1) rest)
      | Whole step len ↦ with_step step (records form (turns + turns_of step) (place + 1) (len - 1) rest)
    ])
found_fit Cut form turns place rest fits later = All-nil StepFits
found_fit (Wrong from to kind) form turns place rest fits later = All-nil StepFits
found_fit Last form turns place rest fits later = All-nil StepFits
found_fit (Whole step len) form turns place rest fits later = All-cons StepFits step _ fits (later (turns + turns_of step) (len - 1))

records_fit : (form : Form) (turns place skip : ℕ) (bytes : List ℕ) → Fit (records form turns place skip bytes)
unfolding records
records_fit form turns place zero [] = All-nil StepFits
records_fit form turns place (suc skip) [] = All-nil StepFits
records_fit form turns place (suc skip) (_ ∷ rest) = records_fit form turns (place + 1) skip rest
records_fit form turns place zero (tag ∷ rest) =
    found_fit (record_at form turns (tag ∷ rest)) form turns place rest (record_at-fits form turns (tag ∷ rest))
    (λ t n. records_fit form t (place + 1) n rest)

opened_fit : (form : Option Form) (rest : List ℕ) → Fit (opened form rest)
opened_fit None rest = All-nil StepFits
opened_fit (Some Bfs1) rest = records_fit Bfs1 0 4 0 rest
opened_fit (Some Bfs2) rest = All-cons StepFits first_trigger _ (omega arith) (records_fit Bfs2 0 4 0 rest)
opened_fit (Some Bfs3) rest = All-cons StepFits first_trigger _ (omega arith) (records_fit Bfs3 0 4 0 rest)

judged_fit : (chained : Bool) (word : Option ℕ) (rest : List ℕ) → Fit (opened_by chained word rest)
judged_fit chained None rest = All-nil StepFits
judged_fit chained (Some word) rest = opened_fit (form_of chained word) rest

within_fit : (over : Bool) (limit : ℕ) (below : Reading) → Fit below → Fit (within_if over limit below)
within_fit true limit below h = h
within_fit false limit below h = h

stream_fit : (limit : ℕ) (chained : Bool) (bytes : List ℕ) → Fit (stream_of limit chained bytes)
unfolding stream_of
stream_fit limit chained bytes =
    within_fit (nat_lt limit (length bytes)) limit (judged chained (take limit bytes))
    (judged_fit chained (number_at (take limit bytes)) (drop 4 (take limit bytes)))

-- the machine's steps
atomic_fit : (step : Step) → StepFits step → All IsStep (atomic step)
atomic_fit (Push queue entry) fits = All-cons IsStep (machine.Push queue entry) [] fits (All-nil IsStep)
atomic_fit (Control code) fits = All-cons IsStep (machine.Control code) [] tt (All-nil IsStep)
atomic_fit (Turns count) fits = All-replicate IsStep count machine.Turn tt
atomic_fit (Host write) fits = All-cons IsStep (machine.Host write) [] tt (All-nil IsStep)
atomic_fit (Patch slot buffer) fits = All-nil IsStep

run_fit : (steps : List Step) → All StepFits steps → All IsStep (steps_run steps)
run_fit [] fits = All-nil IsStep
run_fit (step ∷ steps) fits =
    All-append IsStep (atomic step) (steps_run steps) (atomic_fit step (All-head StepFits step steps fits))
    (run_fit steps (All-tail StepFits step steps fits))

steps_in : List Step → Result (List Step) FileFault → List Step
steps_in none (Ok steps) = steps
steps_in none (Err fault) = none

pub whole_steps : (count : ℕ) (found steps : List Step) (e : Ending) → whole_file count found e ≡ Ok steps → found ≡ steps
unfolding steps_in
whole_steps count found steps Unfinished is = ap (steps_in found) is
whole_steps count found steps Ended is = ap (steps_in found) is
whole_steps count found steps (Bad fault) is = ap (steps_in found) is

pub all_fit : (chained : Bool) (bytes : List ℕ) (steps : List Step) → steps_of longest_stream chained bytes ≡ Ok steps → All StepFits steps
all_fit chained bytes steps is =
    let r : Reading = stream_of longest_stream chained bytes in
    subst (All StepFits) (whole_steps (length bytes) r.steps steps r.ending is) (stream_fit longest_stream chained bytes)

pub steps_fit : (bytes : List ℕ) (steps : List Step) → steps_of longest_stream false bytes ≡ Ok steps → All IsStep (steps_run steps)
steps_fit bytes steps is = run_fit steps (all_fit false bytes steps is)
