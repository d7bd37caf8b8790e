-- Granted addresses, chunk by chunk and byte by byte.
use Rattle.std.proofs.Common.{◌≡◌, ℕ, zero, suc, ◌+◌, ◌≤◌, ◌<◌, true, false, List, [], ◌∷◌, length, sym, ◌∙◌, arith, subst, Some, None}
use Rattle.std.proofs.Common.{⊎_elim}
use Rattle.std.proofs.lemmas.Bool.{cases_Bool, cases_lt, cond-true, cond-false, or_left, or_right}
use Rattle.page_table.specs.Grants.{Chunk, IsChunk, AreRising, chunk_at, covers, granted, first_ungranted}

-- each chunk can be granted, and begins where the chunks may begin or later
pub chunk_at-rising : (from : ℕ) (chunks : List Chunk) (i : ℕ) → AreRising from chunks → i < length chunks →
    IsChunk (chunk_at chunks i) × (from ≤ (chunk_at chunks i).at)
chunk_at-rising from [] i rising within = absurd (omega arith)
chunk_at-rising from (c ∷ rest) zero rising within = (rising.1, rising.0)
chunk_at-rising from (c ∷ rest) (suc i) rising within =
    let later = chunk_at-rising (c.at + c.len) rest i rising.2 (omega arith) in (later.0, omega arith)

-- a later chunk begins where an earlier one ends, or later
pub chunks_apart : (from : ℕ) (chunks : List Chunk) (i j : ℕ) → AreRising from chunks → i < j → j < length chunks →
    (chunk_at chunks i).at + (chunk_at chunks i).len ≤ (chunk_at chunks j).at
chunks_apart from [] i j rising order within = absurd (omega arith)
chunks_apart from (c ∷ rest) i zero rising order within = absurd (omega arith)
chunks_apart from (c ∷ rest) zero (suc j) rising order within =
    (chunk_at-rising (c.at + c.len) rest j rising.2 (omega arith)).1
chunks_apart from (c ∷ rest) (suc i) (suc j) rising order within =
    chunks_apart (c.at + c.len) rest i j rising.2 (omega arith) (omega arith)

-- what a chunk covers is granted
pub granted_by : (chunks : List Chunk) (i address : ℕ) → i < length chunks → covers (chunk_at chunks i) address ≡ true →
    granted chunks address ≡ true
granted_by [] i address within here = absurd (omega arith)
granted_by (c ∷ rest) zero address within here = or_left (covers c address) (granted rest address) here
granted_by (c ∷ rest) (suc i) address within here =
    or_right (covers c address) (granted rest address) (granted_by rest i address (omega arith) here)

-- where no byte of a range is ungranted, each is granted
pub all_granted : (chunks : List Chunk) (from count k : ℕ) → first_ungranted chunks from count ≡ None → from ≤ k → k < from + count →
    granted chunks k ≡ true
all_granted chunks from zero k none low high = absurd (omega arith)
all_granted chunks from (suc count) k none low high =
    ⊎_elim
    (λ here.
    let more : first_ungranted chunks (from + 1) count ≡ None = sym (cond-true (granted chunks from) _ (Some from) here) ∙ none in
    ⊎_elim
    (λ above. all_granted chunks (from + 1) count k more (omega arith) (omega arith))
    (λ at_most. let same : from ≡ k = omega arith in subst (λ (address : ℕ). granted chunks address ≡ true) same here)
    (cases_lt from k))
    (λ gap. let some : Some from ≡ None = sym (cond-false (granted chunks from) (first_ungranted chunks (from + 1) count) _ gap) ∙ none in
    cc)
    (cases_Bool (granted chunks from))

-- the first ungranted byte lies in the range and is not granted
pub first_ungranted-is : (chunks : List Chunk) (from count byte : ℕ) → first_ungranted chunks from count ≡ Some byte →
    (from ≤ byte) × (byte < from + count) × (granted chunks byte ≡ false)
first_ungranted-is chunks from zero byte some = cc
first_ungranted-is chunks from (suc count) byte some =
    ⊎_elim
    (λ here.
    let more : first_ungranted chunks (from + 1) count ≡ Some byte = sym (cond-true (granted chunks from) _ (Some from) here) ∙ some in
    let found = first_ungranted-is chunks (from + 1) count byte more in
    (omega arith, omega arith, found.2))
    (λ gap.
    let first : Some from ≡ Some byte = sym (cond-false (granted chunks from) (first_ungranted chunks (from + 1) count) _ gap) ∙ some in
    let same : from ≡ byte = cc in
    (omega arith, omega arith, subst (λ (address : ℕ). granted chunks address ≡ false) same gap))
    (cases_Bool (granted chunks from))
