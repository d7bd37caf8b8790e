-- Records that are taken off the front of a stream, and turns of the last one.
use Rattle.std.proofs.Common.{◌≡◌, ℕ, ◌+◌, ◌-◌, ◌^◌, ◌<◌, ◌≤◌, ◌⊎◌, inl, inr, List, [], ◌++◌, length, take, drop, replicate, refl, sym, ap}
use Rattle.std.proofs.Common.{ap₂, ◌∙◌, arith, append_assoc}
use Rattle.std.proofs.lemmas.List.{replicate-append-replicate}
use Rattle.machine_model.specs.Steps as machine
use Rattle.capture_file.specs.declared.FileFault.{FileFault}
use Rattle.capture_file.specs.declared.Step.{Step}
use Rattle.capture_file.specs.declared.reader.Got.{Got}
use Rattle.capture_file.specs.declared.reader.Got.TheVariants as got
use Rattle.capture_file.specs.Readers.{Reader, after_answer, resumed}
use Rattle.capture_file.specs.Streams.{Bad, Reading, atomic, reading, steps_run, with_step}
use Rattle.kept_stream.proofs.Judged.{front_used}
use Rattle.turn_trace.specs.Traces.{Tracing, after_all, lines}
use Rattle.trace_play.specs.Playing.{Playing, coming, text_left, weight}
use Rattle.trace_play.specs.Texts.{rest_text}
use Rattle.trace_play.proofs.Texts.{goes_on}

module _ (before after : Playing) (old new : List ℕ) where
  -- a step was taken of it
  pub record_taken : (step : Step) → before.turns ≡ 0 →
      resumed before.reader before.bytes ≡ with_step step (resumed after.reader after.bytes) →
      ((later : List machine.Step) → new ++ rest_text after.tracing (replicate after.turns machine.Turn ++ later)
      ≡ old ++ rest_text before.tracing (atomic step ++ later)) →
      new ++ text_left after ≡ old ++ text_left before
  record_taken step none is taken =
      taken (steps_run (resumed after.reader after.bytes).steps)
      ∙ ap (λ (r : Reading). old ++ rest_text before.tracing (steps_run r.steps)) (sym is)
      ∙ ap (λ (n : ℕ). old ++ rest_text before.tracing (replicate n machine.Turn ++ steps_run (resumed before.reader before.bytes).steps))
      (sym none)

  -- only bytes were passed over
  pub passed : after.tracing ≡ before.tracing → after.turns ≡ before.turns →
      resumed before.reader before.bytes ≡ resumed after.reader after.bytes → new ≡ old →
      new ++ text_left after ≡ old ++ text_left before
  passed same turns is text =
      ap (λ (x : List ℕ). x ++ text_left after) text
      ∙ ap (λ (t : Tracing). old ++ rest_text t (coming after)) same
      ∙ ap
      (λ (n : ℕ). old ++ rest_text before.tracing (replicate n machine.Turn ++ steps_run (resumed after.reader after.bytes).steps)) turns
      ∙ ap (λ (r : Reading). old ++ rest_text before.tracing (replicate before.turns machine.Turn ++ steps_run r.steps)) (sym is)

-- a trace of a stream that was read up to a place
abbrev pub playing_at : Tracing → ℕ → Reader → List ℕ → ℕ → Playing
playing_at t turns reader stream at = record { tracing = t; turns = turns; reader = reader; bytes = drop at stream }

-- the front of what is left of the stream was used
module _ (t : Tracing) (turns : ℕ) (reader left : Reader) (stream bytes : List ℕ) (at used : ℕ) (found : Got) (whole : Playing)
    (view : playing_at t turns reader stream at ≡ whole) (is : bytes ≡ stream)
    (answers : (more : List ℕ) → resumed reader (take (length bytes - at) (drop at bytes) ++ more)
    ≡ after_answer found (resumed left (drop used (take (length bytes - at) (drop at bytes)) ++ more))) where
  used_so : resumed reader (drop at stream) ≡ after_answer found (resumed left (drop (at + used) stream))
  used_so = front_used reader left found at used stream bytes is answers

  -- by a step
  pub front_step : (step : Step) (after : Playing) (old new : List ℕ) → found ≡ got.Step step → whole.turns ≡ 0 → after.reader ≡ left →
      after.bytes ≡ drop (at + used) stream →
      ((later : List machine.Step) →
      new ++ rest_text after.tracing (replicate after.turns machine.Turn ++ later) ≡ old ++ rest_text t (atomic step ++ later)) →
      new ++ text_left after ≡ old ++ text_left whole
  front_step step after old new steps none same rest texts =
      record_taken (playing_at t turns reader stream at) after old new step (ap (λ (p : Playing). p.turns) view ∙ none)
      (used_so ∙ ap (λ f. after_answer f (resumed left (drop (at + used) stream))) steps
      ∙ sym (ap₂ (λ r b. with_step step (resumed r b)) same rest)) texts
      ∙ ap (λ (p : Playing). old ++ text_left p) view

  -- by what is no step
  pub front_passed : (old : List ℕ) → after_answer found (resumed left (drop (at + used) stream)) ≡ resumed left (drop (at + used) stream) →
      old ++ text_left (playing_at t turns left stream (at + used)) ≡ old ++ text_left whole
  front_passed old no_step =
      passed (playing_at t turns reader stream at) (playing_at t turns left stream (at + used)) old old refl refl (used_so ∙ no_step) refl
      ∙ ap (λ (p : Playing). old ++ text_left p) view

-- turns of the record that was read last were taken
pub turns_taken : (t now : Tracing) (old new : List ℕ) (count left : ℕ) (later : List machine.Step) → left ≤ count →
    now ≡ after_all t (replicate (count - left) machine.Turn) →
    new ≡ old ++ lines t (replicate (count - left) machine.Turn) →
    new ++ rest_text now (replicate left machine.Turn ++ later) ≡ old ++ rest_text t (replicate count machine.Turn ++ later)
turns_taken t now old new count left later within is text =
    let sum : count - left + left ≡ count = omega (arith, within) in
    let both : replicate (count - left) machine.Turn ++ (replicate left machine.Turn ++ later) ≡ replicate count machine.Turn ++ later =
    sym (append_assoc (replicate (count - left) machine.Turn) (replicate left machine.Turn) later)
    ∙ ap (λ (list : List machine.Step). list ++ later)
    (replicate-append-replicate (count - left) left machine.Turn ∙ ap (λ (n : ℕ). replicate n machine.Turn) sum) in
    goes_on t now old new (replicate (count - left) machine.Turn) (replicate left machine.Turn ++ later) is text
    ∙ ap (λ (list : List machine.Step). old ++ rest_text t list) both

-- no step is left behind a fault
pub none_left : (p : Playing) (fault : FileFault) → p.turns ≡ 0 → resumed p.reader p.bytes ≡ reading [] (Bad fault) → coming p ≡ []
none_left p fault none is =
    ap (λ (n : ℕ). replicate n machine.Turn ++ steps_run (resumed p.reader p.bytes).steps) none
    ∙ ap (λ (r : Reading). steps_run r.steps) is

-- ---- what is left gets less

-- where a record was taken
pub lighter : (p now : Playing) → length now.bytes < length p.bytes → now.turns < 2 ^ 32 → weight now < weight p
lighter p now fewer small = omega (arith, fewer, small)

-- no more than at first
pub at_most : {A : Type 0} (p first : Playing) → (A × (p ≡ first)) ⊎ (weight p < weight first) → weight p ≤ weight first
at_most p first (inl (same, is)) = let e = ap weight is in omega (arith, e)
at_most p first (inr less) = omega (arith, less)
