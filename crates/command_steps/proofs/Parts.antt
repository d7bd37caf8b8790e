-- The open input has no part in what is written and printed.
use Rattle.std.proofs.Common.{◌≡◌, ℕ, inl, inr, List, [], ◌∷◌, refl, ap}
use Rattle.capture_desk.specs.Desks.{Told}
use Rattle.command_steps.specs.Inputs.{apart}
use Rattle.command_steps.specs.Outputs.{IsPart, after_file, delivered}

pub apart_part : (files : List (List ℕ × List ℕ)) (text : List ℕ) (t new : Told) → IsPart files text t new →
    IsPart files text (apart t) (apart new)
apart_part [] text t new (n, few, e) = (n, few, ap apart e)
apart_part (file ∷ files) text t new (inl e) = inl (ap apart e)
apart_part (file ∷ files) text t new (inr (inl (n, few, e))) = inr (inl (n, few, ap apart e))
apart_part (file ∷ files) text t new (inr (inr h)) = inr (inr (apart_part files text (after_file file t) new h))

pub apart_delivered : (files : List (List ℕ × List ℕ)) (text : List ℕ) (t : Told) →
    apart (delivered files text t) ≡ delivered files text (apart t)
apart_delivered [] text t = refl
apart_delivered (file ∷ files) text t = apart_delivered files text (after_file file t)
