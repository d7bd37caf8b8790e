-- A record that lies whole at the front of a piece.
use Rattle.std.proofs.Common.{◌≡◌, ℕ, ◌+◌, ◌-◌, ◌≤◌, Bool, List, [], ◌++◌, length, take, drop, Option, Some, None, sym, ap, ◌∙◌, arith}
use Rattle.std.specs.Prelude.{IfSome}
use Rattle.std.proofs.lemmas.List.{take_all}
use Rattle.capture_file.specs.declared.Step.{Step}
use Rattle.capture_file.specs.declared.Step.TheVariants.{Turns}
use Rattle.capture_file.specs.declared.reader.Got.TheVariants as got
use Rattle.capture_file.specs.declared.records.Form.{Form}
use Rattle.capture_file.specs.declared.records.Found.TheVariants.{Whole}
use Rattle.capture_file.specs.Records.{StepFits}
use Rattle.capture_file.specs.Streams.{record_at, turns_of}
use Rattle.capture_file.specs.Readers.{Phase, Records, Reader, IsReader, Taken, Takes, after_answer, found_taken, record_taken, resumed}
use Rattle.capture_file.specs.Readers.{taken, taking}
use Rattle.capture_file.proofs.Resumed.{reader, taken-goes}
use Rattle.capture_file.proofs.Answered.{taken-moves, taken-placed}

module _ (limit room turns : ℕ) (chained : Bool) (piece : List ℕ) (form : Form) (step : Step) (len : ℕ) where
  between : room ≤ limit → length piece ≤ room → len ≤ length piece → record_at form turns piece ≡ Whole step len →
      taking len (got.Step step) (reader limit chained (Records form) (limit - (room - len)) (turns + turns_of step) [])
      ≡ record_taken form (reader limit chained (Records form) (limit - room) turns []) piece
  between below fits within found =
      let all : take (limit - (limit - room)) piece ≡ piece = take_all (limit - (limit - room)) piece (omega arith) in
      let place : limit - (room - len) ≡ limit - room + len = omega arith in
      let whole : len - 0 ≡ len = omega arith in
      rw place
      (sym (ap
      (λ (bytes : List ℕ). found_taken (record_at form turns bytes) (reader limit chained (Records form) (limit - room) turns []) piece) all
      ∙ ap (λ f. found_taken f (reader limit chained (Records form) (limit - room) turns []) piece) found
      ∙ ap (λ n. taking n (got.Step step) (reader limit chained (Records form) (limit - room + n) (turns + turns_of step) [])) whole))

  pub front-taken : (phase : Phase) (held : List ℕ) (sum : ℕ) → sum ≡ turns + turns_of step → phase ≡ Records form → held ≡ [] →
      room ≤ limit → length piece ≤ room → len ≤ length piece →
      record_at form turns piece ≡ Whole step len →
      taking len (got.Step step) (reader limit chained phase (limit - (room - len)) sum held)
      ≡ taken (reader limit chained phase (limit - room) turns held) piece
  unfolding taken
  front-taken phase held sum sums is none below fits within found = rw (sums, is, none) (between below fits within found)

-- what follows of a step that was taken
pub takes-step : (r after : Reader) (piece : List ℕ) (step : Step) (count : ℕ) → IsReader r →
    taking count (got.Step step) after ≡ taken r piece → StepFits step → Takes step count r piece after
takes-step r after piece step count is exact fits =
    let moves = taken-moves r piece is in
    record {
      exact = exact;
      whole =
          λ more.
          taken-goes r piece more is
          ∙ sym (ap (λ (t : Taken). after_answer t.answer (resumed t.reader (drop t.used piece ++ more))) exact);
      within = (rw (← exact) at moves.0).1;
      place = rw (← exact) at moves.1;
      moves = λ before placed. let placed_then = taken-placed r piece before is placed in rw (← exact) at placed_then;
      fits = fits;
    }

pub takes-some : {A : Type 0} (step : A → Step) (count : ℕ) (r after : Reader) (piece : List ℕ) (o : Option A) → IsReader r →
    IfSome o (λ a. taking count (got.Step (step a)) after ≡ taken r piece) → IfSome o (λ a. StepFits (step a)) →
    IfSome o (λ a. Takes (step a) count r piece after)
takes-some step count r after piece None is exact fits = tt
takes-some step count r after piece (Some a) is exact fits = takes-step r after piece (step a) count is exact fits

pub turns-fit : (o : Option ℕ) → IfSome o (λ count. StepFits (Turns count))
turns-fit None = tt
turns-fit (Some count) = tt
