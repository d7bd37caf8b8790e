-- Words that go into the last span.
use Rattle.std.proofs.Common.{◌≡◌, ℕ, List, [], ◌∷◌, refl, ap, ◌∙◌}
use Rattle.machine_model.specs.Paths.{Span}
use Rattle.risc_verify.specs.Places.{with_word}
use Rattle.risc_text.specs.Drafts.{longer}
use Rattle.risc_text.proofs.Gathering.{longer-both}

with_word-longer : (spans : List Span) (word : ℕ) → with_word spans word ≡ longer spans (word ∷ [])
with_word-longer [] word = refl
with_word-longer (s ∷ []) word = refl
with_word-longer (s ∷ other ∷ rest) word = ap (λ (spans : List Span). s ∷ spans) (with_word-longer (other ∷ rest) word)

pub pushed : (spans : List Span) (word : ℕ) (rest : List ℕ) → longer (with_word spans word) rest ≡ longer spans (word ∷ rest)
pushed spans word rest = ap (λ (spans : List Span). longer spans rest) (with_word-longer spans word) ∙ longer-both spans (word ∷ []) rest
