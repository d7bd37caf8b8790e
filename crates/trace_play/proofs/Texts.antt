-- The text of a trace over its first steps and the later ones, and that of a whole stream.
use Rattle.std.proofs.Common.{◌≡◌, ℕ, false, List, ◌++◌, length, Ok, sym, ap, ap₂, ◌∙◌, append_assoc}
use Rattle.machine_model.specs.States.{State}
use Rattle.machine_model.specs.Steps as machine
use Rattle.capture_file.specs.declared.Step.{Step}
use Rattle.capture_file.specs.Readers.{resumed}
use Rattle.capture_file.specs.Streams.{Ending, Unfinished, Ended, Bad, steps_of, steps_run, stream_of, whole_file}
use Rattle.kept_stream.specs.Kept.{longest_kept}
use Rattle.turn_trace.specs.Traces.{Tracing, after_all, lines}
use Rattle.turn_trace.proofs.Tracings.{after_all-append, lines-append}
use Rattle.trace_play.specs.Playing.{begun, text_left}
use Rattle.trace_play.specs.Texts.{end_text, rest_text, trace_text}

pub rest_text-append : (t : Tracing) (first later : List machine.Step) →
    rest_text t (first ++ later) ≡ lines t first ++ rest_text (after_all t first) later
rest_text-append t first later =
    ap₂ (λ (a b : List ℕ). a ++ b) (lines-append t first later) (ap end_text (after_all-append t first later))
    ∙ append_assoc (lines t first) (lines (after_all t first) later) (end_text (after_all (after_all t first) later))

-- some steps were taken, and their text was appended
pub goes_on : (t now : Tracing) (old new : List ℕ) (first later : List machine.Step) → now ≡ after_all t first →
    new ≡ old ++ lines t first →
    new ++ rest_text now later ≡ old ++ rest_text t (first ++ later)
goes_on t now old new first later is text =
    ap₂ (λ (a : List ℕ) (b : Tracing). a ++ rest_text b later) text is
    ∙ append_assoc old (lines t first) (rest_text (after_all t first) later)
    ∙ ap (λ (b : List ℕ). old ++ b) (sym (rest_text-append t first later))

-- the steps of a whole stream are those that were found
same_steps : (count : ℕ) (found : List Step) (e : Ending) (steps : List Step) → whole_file count found e ≡ Ok steps → found ≡ steps
same_steps count found Unfinished steps h = absurd (cc)
same_steps count found Ended steps h = cc
same_steps count found (Bad fault) steps h = absurd (cc)

pub whole_trace : (m : State) (bytes : List ℕ) (steps : List Step) → steps_of longest_kept false bytes ≡ Ok steps →
    text_left (begun m bytes) ≡ trace_text m (steps_run steps)
unfolding resumed
whole_trace m bytes steps is =
    let found = stream_of longest_kept false bytes in
    ap (λ (list : List Step). trace_text m (steps_run list)) (same_steps (length bytes) found.steps found.ending steps is)
