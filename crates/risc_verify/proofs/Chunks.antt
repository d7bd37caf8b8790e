-- Ranges that lie in one chunk.
use Rattle.std.proofs.Common.{◌≡◌, ℕ, zero, suc, ◌+◌, ◌≤◌, ◌<◌, true, List, length, Some, None, refl, ◌∙◌, arith}
use Rattle.std.proofs.lemmas.Bool.{cond-true}
use Rattle.page_table.specs.Grants.{Chunk, chunk_at, covers, granted, first_ungranted}
use Rattle.page_table.proofs.Grants.{granted_by}

-- a range within one chunk is granted
pub within_chunk : (chunks : List Chunk) (i address count : ℕ) → i < length chunks → (chunk_at chunks i).at ≤ address →
    address + count ≤ (chunk_at chunks i).at + (chunk_at chunks i).len → first_ungranted chunks address count ≡ None
within_chunk chunks i address zero within begins ends = refl
within_chunk chunks i address (suc count) within begins ends =
    let here : covers (chunk_at chunks i) address ≡ true = grind (arith, begins, ends) in
    cond-true (granted chunks address) (first_ungranted chunks (address + 1) count) (Some address) (granted_by chunks i address within here)
    ∙ within_chunk chunks i (address + 1) count within (omega arith) (omega arith)
