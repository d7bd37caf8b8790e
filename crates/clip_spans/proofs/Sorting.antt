-- Sorted parts of a row are in order.
use Rattle.std.proofs.Common.{ℕ, suc, ◌≤◌, List, [], ◌∷◌, arith}
use Rattle.std.specs.List.{All}
use Rattle.std.specs.List.Sorted.{IsNonDecreasingBy}
use Rattle.clip_spans.specs.Parts.{IsPart, AreInOrder}
use Rattle.clip_spans.specs.declared.Part.{Part}

pub sorted_in_order : (width low : ℕ) (parts : List Part) → IsNonDecreasingBy (λ (p : Part). p.from) parts → All (IsPart width) parts →
    All (λ (p : Part). low ≤ p.from) parts → AreInOrder width low parts
sorted_in_order width low [] sorted are above = tt
sorted_in_order width low (part ∷ rest) sorted are above = (
  above 0 part (omega arith),
  are 0 part (omega arith),
  sorted_in_order width part.from rest
      (λ i j d order within. sorted (suc i) (suc j) d (omega arith) (omega arith))
      (λ k d within. are (suc k) d (omega arith))
      (λ k d within. sorted 0 (suc k) d (omega arith) (omega arith)),
)
