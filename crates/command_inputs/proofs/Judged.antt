-- What is so of the bytes of a file that was read whole is so of the file.
use Rattle.std.proofs.Common.{◌≡◌, List, ℕ, Option, Result, IfOk}
use Rattle.std.proofs.lemmas.Result.{IfOk-weaker}
use Rattle.capture_desk.specs.Desks.{Inputs}
use Rattle.command_texts.specs.declared.refusal.Refusal.{Refusal}
use Rattle.command_steps.specs.Inputs.{OfInput}
use Rattle.command_inputs.proofs.UpToLimit.{of_whole}

module _ {A : Type 0} (name : List ℕ) (told : Option Inputs) (bytes : List ℕ) (whole : OfInput name told (λ content. bytes ≡ content))
    (P : List ℕ → A → Type 0) (r : Result A Refusal) where
  -- the value that it gives
  pub of_file : IfOk r (P bytes) → IfOk r (λ x. OfInput name told (λ content. P content x))
  of_file h =
      IfOk-weaker r (P bytes) (λ x. OfInput name told (λ content. P content x))
      (λ x p. of_whole name told bytes whole (λ content. P content x) p) h

  -- and so it is good
  pub good_file : (Good : List ℕ → Type 0) → ((content : List ℕ) (x : A) → P content x → Good content) → IfOk r (P bytes) →
      IfOk r (λ _. OfInput name told Good)
  good_file Good good h =
      IfOk-weaker r (P bytes) (λ _. OfInput name told Good) (λ x p. of_whole name told bytes whole Good (good bytes x p)) h
