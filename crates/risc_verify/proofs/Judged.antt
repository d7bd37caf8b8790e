-- A place whose instruction is read: its fault, and the place after it.
use Rattle.std.proofs.Common.{◌≡◌, ℕ, ◌∙◌, Option, None, Some, Result, Ok, Err, ap}
use Rattle.std.specs.Prelude.{MatchResult}
use Rattle.risc_word.specs.declared.Instr.{Instr}
use Rattle.risc_word.specs.Words.{Reading}
use Rattle.machine_model.specs.declared.Cause.{Cause}
use Rattle.machine_model.specs.Paths.{RiscProgram, Place, cause_at, fetch, instr_cause, next_by, next_place, place_after, place_read}
use Rattle.machine_model.specs.Paths.{reading_cause}

module _ (program : RiscProgram) (place : Place) (x : Instr) (count : ℕ) (read : fetch program place.pc ≡ Ok (x, count)) where
  cause-is : cause_at program place ≡ instr_cause program x place.target
  cause-is = ap (reading_cause program place.target) read

  next-is : (after : Place) → instr_cause program x place.target ≡ None → place_after x count place ≡ after →
      next_place program place ≡ after
  next-is after fine after-is =
      ap (λ (c : Option Cause). next_by c program place) (cause-is ∙ fine) ∙ ap (λ (r : Reading). place_read r place) read ∙ after-is

  -- what holds of the instruction that is read holds of the place, whatever an answer holds beside the next one
  pub judged : {A : Type 0} (result : Result A Cause) (place_of : A → Place) →
      MatchResult result (λ after. (instr_cause program x place.target ≡ None) × (place_after x count place ≡ place_of after))
      (λ cause. instr_cause program x place.target ≡ Some cause) →
      MatchResult result (λ next. (cause_at program place ≡ None) × (next_place program place ≡ place_of next))
      (λ cause. cause_at program place ≡ Some cause)
  judged (Ok after) place_of told = (cause-is ∙ told.0, next-is (place_of after) told.0 told.1)
  judged (Err cause) place_of told = cause-is ∙ told
