-- A rising list with one more chunk.
use Rattle.std.proofs.Common.{◌≡◌, ℕ, ◌+◌, ◌≤◌, ◌<◌, ◌⊎◌, inl, inr, Bool, false, ◌||◌, List, [], ◌∷◌, length, refl, arith, ⊎_elim}
use Rattle.std.proofs.lemmas.Bool.{ltb-true, ltb-false, or_parts, and_cases, cond_both}
use Rattle.std.proofs.lemmas.List.Sums.{sum_by-cons}
use Rattle.std.specs.List.{list_any}
use Rattle.std.specs.Prelude.{nat_lt}
use Rattle.page_table.specs.Grants.{Chunk, IsChunk, AreRising, total}
use Rattle.page_table.specs.Taken.{shares, placed}

-- of chunks that share no byte one ends before the other begins
pub stand_apart : (c d : Chunk) → shares c d ≡ false → (d.at + d.len ≤ c.at) ⊎ (c.at + c.len ≤ d.at)
stand_apart c d apart =
    ⊎_elim (λ e. inl (ltb-false _ _ e)) (λ e. inr (ltb-false _ _ e)) (and_cases _ _ apart)

pub total-cons : (c : Chunk) (chunks : List Chunk) → total (c ∷ chunks) ≡ c.len + total chunks
total-cons c chunks = sum_by-cons (λ (d : Chunk). d.len) c chunks

pub length-placed : (c : Chunk) (chunks : List Chunk) → length (placed c chunks) ≡ length chunks + 1
length-placed c [] = refl
length-placed c (d ∷ rest) = let more = length-placed c rest in grind (arith, more)

pub total-placed : (c : Chunk) (chunks : List Chunk) → total (placed c chunks) ≡ c.len + total chunks
total-placed c [] = total-cons c []
total-placed c (d ∷ rest) =
    let last = total-cons d rest in
    cond_both (nat_lt c.at d.at) (c ∷ d ∷ rest) (d ∷ placed c rest) (λ all. total all ≡ c.len + total (d ∷ rest))
    (λ before. total-cons c (d ∷ rest))
    (λ after. let more = total-placed c rest in let first = total-cons d (placed c rest) in omega arith)

pub list_any-placed : (p : Chunk → Bool) (c : Chunk) (chunks : List Chunk) → list_any p (placed c chunks) ≡ (p c || list_any p chunks)
list_any-placed p c [] = refl
list_any-placed p c (d ∷ rest) = let more = list_any-placed p c rest in grind (arith, more)

-- a chunk that shares no byte with the others goes among them
pub placed_rising : (c : Chunk) (from : ℕ) (chunks : List Chunk) → IsChunk c → from ≤ c.at → AreRising from chunks →
    list_any (shares c) chunks ≡ false → AreRising from (placed c chunks)
placed_rising c from [] good later rising apart = (later, good, tt)
placed_rising c from (d ∷ rest) good later rising apart =
    let parts = or_parts (shares c d) (list_any (shares c) rest) apart in
    let sides = stand_apart c d parts.0 in
    let more = placed_rising c (d.at + d.len) rest good in
    cond_both (nat_lt c.at d.at) (c ∷ d ∷ rest) (d ∷ placed c rest) (AreRising from)
    (λ before. let lt : c.at < d.at = ltb-true _ _ before in (later, good, (grind arith, rising.1, rising.2)))
    (λ after. let le : d.at ≤ c.at = ltb-false _ _ after in (rising.0, rising.1, more (grind arith) rising.2 parts.1))
