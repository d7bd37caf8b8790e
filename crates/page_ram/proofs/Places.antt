-- Which chunk has an address: the first that does not end at it or before it.
use Rattle.std.proofs.Common.{◌≡◌, ℕ, zero, suc, ◌+◌, ◌-◌, ◌≤◌, ◌<◌, Bool, true, false, ◌||◌, List, [], ◌∷◌, length, map, get_or, sym, ap}
use Rattle.std.proofs.Common.{◌∙◌, arith, subst, ⊎_elim}
use Rattle.std.proofs.Math.ListN.{set, get_or-map}
use Rattle.std.proofs.lemmas.List.{length-map}
use Rattle.std.proofs.lemmas.List.Sums.{prefix_len_is}
use Rattle.std.specs.List.Sorted.{IsPartitionPoint, IsNonDecreasingBy}
use Rattle.std.proofs.lemmas.Bool.{cases_Bool, cond-true, cond-false, and_right, leb-true, leb-false, le-ltb}
use Rattle.std.specs.List.{prefix_len}
use Rattle.std.specs.Prelude.{nat_le}
use Rattle.page_table.specs.Grants.{Chunk, chunk, covers, granted, AreRising}
use Rattle.page_table.specs.Blocks.{Block, chunk_of, chunks_of, byte_at, stored}
use Rattle.page_ram.specs.Places.{HasAddress}
use Rattle.page_table.proofs.Rising.{none_below}
use Rattle.page_table.proofs.Memory.{with_byte}

abbrev pub chunk_end : Chunk → ℕ
chunk_end c = c.at + c.len

le-chunk_end : (from : ℕ) (chunks : List Chunk) (j : ℕ) (d : Chunk) → AreRising from chunks → j < length chunks →
    from ≤ chunk_end (get_or chunks j d)
le-chunk_end from [] j d rising within = absurd (omega arith)
le-chunk_end from (c ∷ rest) zero d rising within = omega arith
le-chunk_end from (c ∷ rest) (suc j) d rising within =
    let later = le-chunk_end (chunk_end c) rest j d rising.2 (omega arith) in omega arith

pub ends_rise : (from : ℕ) (chunks : List Chunk) → AreRising from chunks → IsNonDecreasingBy chunk_end chunks
ends_rise from [] rising i j d order within = absurd (omega arith)
ends_rise from (c ∷ rest) rising zero zero d order within = omega arith
ends_rise from (c ∷ rest) rising zero (suc j) d order within =
    le-chunk_end (chunk_end c) rest j d rising.2 (omega arith)
ends_rise from (c ∷ rest) rising (suc i) zero d order within = absurd (omega arith)
ends_rise from (c ∷ rest) rising (suc i) (suc j) d order within =
    ends_rise (chunk_end c) rest rising.2 i j d (omega arith) (omega arith)

abbrev pub place : ℕ → List Chunk → ℕ
place address chunks = prefix_len (λ c. nat_le (chunk_end c) address) chunks

le-chunk_at : (from : ℕ) (chunks : List Chunk) (j : ℕ) (d : Chunk) → AreRising from chunks → j < length chunks →
    from ≤ (get_or chunks j d).at
le-chunk_at from [] j d rising within = absurd (omega arith)
le-chunk_at from (c ∷ rest) zero d rising within = omega arith
le-chunk_at from (c ∷ rest) (suc j) d rising within =
    let later = le-chunk_at (chunk_end c) rest j d rising.2 (omega arith) in omega arith

-- the first chunk that does not end at a granted address or before it has the address
pub place_covers : (from : ℕ) (chunks : List Chunk) (address : ℕ) → AreRising from chunks → granted chunks address ≡ true →
    HasAddress chunks (place address chunks) address
place_covers from [] address rising within = cc
place_covers from (c ∷ rest) address rising within =
    ⊎_elim
    (λ early.
    let later : covers c address ≡ false = and_right _ _ (le-ltb address (chunk_end c) (leb-true _ _ early)) in
    let rest_within : granted rest address ≡ true = sym (ap (λ (first : Bool). first || granted rest address) later) ∙ within in
    let one_more : place address (c ∷ rest) ≡ suc (place address rest) =
    cond-true (nat_le (chunk_end c) address) (1 + place address rest) 0 early ∙ omega arith in
    let found = place_covers (chunk_end c) rest address rising.2 rest_within in
    subst (λ n. HasAddress (c ∷ rest) n address) (sym one_more) (omega arith, found.1))
    (λ late.
    let none : place address (c ∷ rest) ≡ 0 = cond-false (nat_le (chunk_end c) address) (1 + place address rest) 0 late in
    let below : granted rest address ≡ false = none_below (chunk_end c) rest address rising.2 (leb-false _ _ late) in
    let here : covers c address ≡ true = grind (arith, within, below) in
    subst (λ n. HasAddress (c ∷ rest) n address) (sym none) (omega arith, here))
    (cases_Bool (nat_le (chunk_end c) address))

-- what a search by halves finds has the address
module _ {X : Type 0} (f : X → Chunk) where
  pub ends_rise-map : (xs : List X) → AreRising 0 (map f xs) → IsNonDecreasingBy (λ x. chunk_end (f x)) xs
  ends_rise-map xs rising i j d order within =
      let one = ap chunk_end (get_or-map f xs i d) in
      let other = ap chunk_end (get_or-map f xs j d) in
      let rise = ends_rise 0 (map f xs) rising i j (f d) order (omega (arith, length-map xs f)) in
      omega arith

  pub searched : (xs : List X) (address n : ℕ) → n ≤ length xs →
      IsPartitionPoint (λ x. nat_le (chunk_end (f x)) address ≡ true) (λ x. nat_le (chunk_end (f x)) address ≡ false) xs n →
      AreRising 0 (map f xs) → granted (map f xs) address ≡ true → HasAddress (map f xs) n address
  searched [] address n within parts rising here = cc
  searched (x ∷ xs) address n within parts rising here =
      let all = x ∷ xs in
      let early : Chunk → Bool = λ c. nat_le (chunk_end c) address in
      let at : (k : ℕ) → early (get_or (map f all) k (f x)) ≡ early (f (get_or all k x)) = λ k. ap early (get_or-map f all k x) in
      let long = length-map all f in
      subst (λ (k : ℕ). HasAddress (map f all) k address)
      (prefix_len_is early (map f all) n (f x) (omega arith) (λ k below. at k ∙ parts.0 k x (omega arith) below)
      (λ below. at n ∙ parts.1 n x (omega arith) (omega arith)))
      (place_covers 0 (map f all) address rising here)

-- the block at a place has the address
pub record IsPlace (memory : List Block) (address n : ℕ) : Type 0 where
  pub within : n < length memory
  pub covers_it : (d : Block) → covers (chunk_of (get_or memory n d)) address ≡ true
  pub reads : (d : Block) → byte_at memory address ≡ get_or (get_or memory n d).bytes (address - (get_or memory n d).at) 0
  pub writes : (d : Block) (byte : ℕ) → stored memory address byte ≡ set memory n (with_byte (get_or memory n d) address byte)

first_place : (block : Block) (rest : List Block) (address : ℕ) → covers (chunk_of block) address ≡ true → IsPlace (block ∷ rest) address 0
first_place block rest address here =
    record {
      within = omega arith;
      covers_it = λ _. here;
      reads = λ _. cond-true (covers (chunk_of block) address) (get_or block.bytes (address - block.at) 0) (byte_at rest address) here;
      writes = λ _ byte.
          cond-true (covers (chunk_of block) address) (with_byte block address byte ∷ rest) (block ∷ stored rest address byte) here;
    }

later_place : (block : Block) (rest : List Block) (address n : ℕ) → covers (chunk_of block) address ≡ false → IsPlace rest address n →
    IsPlace (block ∷ rest) address (suc n)
later_place block rest address n later is =
    record {
      within = let old = is.within in omega arith;
      covers_it = is.covers_it;
      reads =
          λ d. cond-false (covers (chunk_of block) address) (get_or block.bytes (address - block.at) 0) (byte_at rest address) later
          ∙ is.reads d;
      writes = λ d byte.
          cond-false (covers (chunk_of block) address) (with_byte block address byte ∷ rest) (block ∷ stored rest address byte) later
          ∙ ap (λ (others : List Block). block ∷ others) (is.writes d byte);
    }

-- where a chunk has the address, its block is the one that is read and written
pub place_held : (from : ℕ) (memory : List Block) (address n : ℕ) → AreRising from (chunks_of memory) →
    HasAddress (chunks_of memory) n address → IsPlace memory address n
place_held from [] address n rising has = absurd (omega (arith, has.0))
place_held from (block ∷ rest) address zero rising has = first_place block rest address has.1
place_held from (block ∷ rest) address (suc n) rising has =
    let begins = le-chunk_at (chunk_end (chunk_of block)) (chunks_of rest) n (chunk 0 0) rising.2 (omega (arith, has.0)) in
    let later : covers (chunk_of block) address ≡ false = grind (arith, begins, has.1) in
    later_place block rest address n later (place_held (chunk_end (chunk_of block)) rest address n rising.2 (omega (arith, has.0), has.1))

pub place_of_call : (items called : List Block) (address n : ℕ) → called ≡ items → AreRising 0 (chunks_of items) →
    HasAddress (chunks_of called) n address → IsPlace items address n
place_of_call items called address n same rising has =
    place_held 0 items address n rising (subst (λ (m : List Block). HasAddress (chunks_of m) n address) same has)

-- what a read and a write at the place do
pub covered_at : (items : List Block) (address n : ℕ) (block : Block) → IsPlace items address n → block ≡ get_or items n block →
    covers (chunk_of block) address ≡ true
covered_at items address n block is read =
    subst (λ (b : Block). covers (chunk_of b) address ≡ true) (sym read) (is.covers_it block)

pub loaded_at : (items memory : List Block) (address n : ℕ) (block : Block) → items ≡ memory → IsPlace items address n →
    block ≡ get_or items n block → get_or block.bytes (address - block.at) 0 ≡ byte_at memory address
loaded_at items memory address n block same is read =
    ap (λ (b : Block). get_or b.bytes (address - b.at) 0) read ∙ sym (is.reads block)
    ∙ ap (λ (m : List Block). byte_at m address) same

pub stored_at : (items memory : List Block) (address byte n : ℕ) (old new : Block) → items ≡ memory → IsPlace items address n →
    old ≡ get_or items n old → new ≡ with_byte old address byte → set items n new ≡ stored memory address byte
stored_at items memory address byte n old new same is read written =
    ap (set items n) (written ∙ ap (λ (b : Block). with_byte b address byte) read) ∙ sym (is.writes old byte)
    ∙ ap (λ (m : List Block). stored m address byte) same
