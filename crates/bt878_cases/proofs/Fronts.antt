-- The first byte of each chunk of a memory is granted.
use Rattle.std.proofs.Common.{◌≡◌, ℕ, true, List, option_map, Some, ap, sym, subst, ◌∙◌, arith}
use Rattle.std.specs.Prelude.{slice_get}
use Rattle.std.proofs.lemmas.Option.{slice_get-map, slice_get_within, get_or_from_slice_get}
use Rattle.page_table.specs.Grants.{IsChunk, chunk, chunk_at, covers, granted}
use Rattle.page_table.specs.Blocks.{Block, AreBlocks, chunk_of, chunks_of}
use Rattle.page_table.proofs.Grants.{chunk_at-rising, granted_by}

front_covered : (block : Block) → IsChunk (chunk_of block) → covers (chunk_of block) block.at ≡ true
front_covered block is = grind (arith, is.some)

pub front_granted : (memory : List Block) (i : ℕ) (block : Block) → AreBlocks memory → slice_get memory i ≡ Some block →
    granted (chunks_of memory) block.at ≡ true
front_granted memory i block are e =
    let there : slice_get (chunks_of memory) i ≡ Some (chunk_of block) = slice_get-map chunk_of memory i ∙ ap (option_map chunk_of) e in
    let here : chunk_at (chunks_of memory) i ≡ chunk_of block =
    get_or_from_slice_get (chunks_of memory) i (chunk_of block) (chunk 0 0) there in
    let within = slice_get_within (chunks_of memory) i (chunk_of block) there in
    let is = (chunk_at-rising 0 (chunks_of memory) i are.grants.rising within).0 in
    granted_by (chunks_of memory) i block.at within
    (subst (λ c. covers c block.at ≡ true) (sym here) (front_covered block (subst IsChunk here is)))
