-- Memory as a map from granted addresses to bytes.
use Rattle.std.proofs.Common.{◌≡◌, ℕ, ◌+◌, ◌-◌, ◌≤◌, ◌<◌, Bool, true, false, cond, ◌||◌, List, [], ◌∷◌, length, get_or, refl, sym, ap, ◌∙◌}
use Rattle.std.proofs.Common.{arith, subst, ⊎_elim, get_or-set_same, get_or-set_other, lit<}
use Rattle.std.proofs.Math.ListN.{length-set, set}
use Rattle.std.proofs.lemmas.List.{length-replicate, get_or-replicate}
use Rattle.std.proofs.lemmas.Bool.{cases_Bool, cond-true, cond-false, cond_both, and_parts, leb-true, ltb-true}
use Rattle.std.proofs.lemmas.List.Elements.{All-set, All-replicate}
use Rattle.page_table.specs.Grants.{Chunk, chunk, covers, granted, AreGrants}
use Rattle.page_table.specs.Blocks.{Block, chunk_of, chunks_of, filled_block, filled, byte_at, stored, stored_run, AreBytes, AreBlocks}

-- a covered address is within the bytes
pub covered : (block : Block) (address : ℕ) → covers (chunk_of block) address ≡ true →
    (block.at ≤ address) × (address < block.at + length block.bytes)
covered block address here = let parts = and_parts _ _ here in (leb-true _ _ parts.0, ltb-true _ _ parts.1)

-- a block with another byte
abbrev pub with_byte : Block → ℕ → ℕ → Block
with_byte block address byte = record block { bytes = set block.bytes (address - block.at) byte }

chunk_of-with_byte : (block : Block) (address byte : ℕ) → chunk_of (with_byte block address byte) ≡ chunk_of block
chunk_of-with_byte block address byte = ap (chunk block.at) (length-set block.bytes (address - block.at) byte)

-- a store keeps the chunks
pub chunks_of-stored : (memory : List Block) (address byte : ℕ) → chunks_of (stored memory address byte) ≡ chunks_of memory
chunks_of-stored [] address byte = refl
chunks_of-stored (block ∷ rest) address byte =
    cond_both (covers (chunk_of block) address) (with_byte block address byte ∷ rest) (block ∷ stored rest address byte)
    (λ (memory : List Block). chunks_of memory ≡ chunks_of (block ∷ rest))
    (λ _. ap (λ c. c ∷ chunks_of rest) (chunk_of-with_byte block address byte))
    (λ _. ap (λ cs. chunk_of block ∷ cs) (chunks_of-stored rest address byte))

pub chunks_of-stored_run : (memory : List Block) (address : ℕ) (bytes : List ℕ) →
    chunks_of (stored_run memory address bytes) ≡ chunks_of memory
chunks_of-stored_run memory address [] = refl
chunks_of-stored_run memory address (byte ∷ bytes) =
    chunks_of-stored_run (stored memory address byte) (address + 1) bytes ∙ chunks_of-stored memory address byte

pub length-stored : (memory : List Block) (address byte : ℕ) → length (stored memory address byte) ≡ length memory
length-stored [] address byte = refl
length-stored (block ∷ rest) address byte =
    let more = length-stored rest address byte in
    cond_both (covers (chunk_of block) address) (with_byte block address byte ∷ rest) (block ∷ stored rest address byte)
    (λ (memory : List Block). length memory ≡ length (block ∷ rest)) (λ _. refl) (λ _. omega arith)

-- the byte at an address, by whether the first block covers it
byte_at-here : (block : Block) (rest : List Block) (address : ℕ) → covers (chunk_of block) address ≡ true →
    byte_at (block ∷ rest) address ≡ get_or block.bytes (address - block.at) 0
byte_at-here block rest address here =
    cond-true (covers (chunk_of block) address) (get_or block.bytes (address - block.at) 0) (byte_at rest address) here

byte_at-later : (block : Block) (rest : List Block) (address : ℕ) → covers (chunk_of block) address ≡ false →
    byte_at (block ∷ rest) address ≡ byte_at rest address
byte_at-later block rest address later =
    cond-false (covers (chunk_of block) address) (get_or block.bytes (address - block.at) 0) (byte_at rest address) later

covers-with_byte : (block : Block) (address byte other : ℕ) →
    covers (chunk_of (with_byte block address byte)) other ≡ covers (chunk_of block) other
covers-with_byte block address byte other = ap (λ c. covers c other) (chunk_of-with_byte block address byte)

-- it writes its byte
pub byte_at-stored_same : (memory : List Block) (address byte : ℕ) → granted (chunks_of memory) address ≡ true →
    byte_at (stored memory address byte) address ≡ byte
byte_at-stored_same [] address byte within = cc
byte_at-stored_same (block ∷ rest) address byte within =
    cond_both (covers (chunk_of block) address) (with_byte block address byte ∷ rest) (block ∷ stored rest address byte)
    (λ (memory : List Block). byte_at memory address ≡ byte)
    (λ here.
    let place = covered block address here in
    byte_at-here (with_byte block address byte) rest address (covers-with_byte block address byte address ∙ here)
    ∙ get_or-set_same block.bytes (address - block.at) byte 0 (omega arith))
    (λ later.
    let rest_within : granted (chunks_of rest) address ≡ true =
    sym (ap (λ (first : Bool). first || granted (chunks_of rest) address) later) ∙ within in
    byte_at-later block (stored rest address byte) address later ∙ byte_at-stored_same rest address byte rest_within)

-- in a block another byte stays
with_byte-other : (block : Block) (rest : List Block) (address byte other : ℕ) → (other ≡ address → ⊥) →
    covers (chunk_of block) address ≡ true → byte_at (with_byte block address byte ∷ rest) other ≡ byte_at (block ∷ rest) other
with_byte-other block rest address byte other apart here =
    let place = covered block address here in
    ⊎_elim
    (λ other_here.
    let other_place = covered block other other_here in
    byte_at-here (with_byte block address byte) rest other (covers-with_byte block address byte other ∙ other_here)
    ∙ get_or-set_other block.bytes (address - block.at) (other - block.at) byte 0 (omega arith)
    ∙ sym (byte_at-here block rest other other_here))
    (λ other_later.
    byte_at-later (with_byte block address byte) rest other (covers-with_byte block address byte other ∙ other_later)
    ∙ sym (byte_at-later block rest other other_later))
    (cases_Bool (covers (chunk_of block) other))

-- and no other
pub byte_at-stored_other : (memory : List Block) (address byte other : ℕ) → (other ≡ address → ⊥) →
    byte_at (stored memory address byte) other ≡ byte_at memory other
byte_at-stored_other [] address byte other apart = refl
byte_at-stored_other (block ∷ rest) address byte other apart =
    cond_both (covers (chunk_of block) address) (with_byte block address byte ∷ rest) (block ∷ stored rest address byte)
    (λ (memory : List Block). byte_at memory other ≡ byte_at (block ∷ rest) other)
    (λ here. with_byte-other block rest address byte other apart here)
    (λ later. ap (λ (byte' : ℕ). cond (covers (chunk_of block) other) (get_or block.bytes (other - block.at) 0) byte')
    (byte_at-stored_other rest address byte other apart))

-- a store of a byte keeps bytes
pub AreBytes-stored : (memory : List Block) (address byte : ℕ) → byte < 256 → AreBytes memory → AreBytes (stored memory address byte)
AreBytes-stored [] address byte small bytes = tt
AreBytes-stored (block ∷ rest) address byte small bytes =
    cond_both (covers (chunk_of block) address) (with_byte block address byte ∷ rest) (block ∷ stored rest address byte) AreBytes
    (λ _. (All-set (λ (b : ℕ). b < 256) block.bytes (address - block.at) byte small bytes.0, bytes.1))
    (λ _. (bytes.0, AreBytes-stored rest address byte small bytes.1))

pub AreBlocks-stored : (memory : List Block) (address byte : ℕ) → byte < 256 → AreBlocks memory → AreBlocks (stored memory address byte)
AreBlocks-stored memory address byte small blocks =
    record {
      grants = subst AreGrants (sym (chunks_of-stored memory address byte)) blocks.grants;
      bytes = AreBytes-stored memory address byte small blocks.bytes;
    }

-- each byte of a memory is below 256
pub lt-byte_at : (memory : List Block) (address : ℕ) → AreBytes memory → byte_at memory address < 256
lt-byte_at [] address bytes = lit< tt
lt-byte_at (block ∷ rest) address bytes =
    cond_both (covers (chunk_of block) address) (get_or block.bytes (address - block.at) 0) (byte_at rest address) (λ byte. byte < 256)
    (λ here. let place = covered block address here in bytes.0 (address - block.at) 0 (omega arith))
    (λ _. lt-byte_at rest address bytes.1)

-- memory filled with one byte has the chunks that it was made for
pub chunks_of-filled : (fill : ℕ) (chunks : List Chunk) → chunks_of (filled fill chunks) ≡ chunks
chunks_of-filled fill [] = refl
chunks_of-filled fill (c ∷ rest) =
    ap (λ (len : ℕ). chunk c.at len ∷ chunks_of (filled fill rest)) (length-replicate c.len fill)
    ∙ ap (λ (others : List Chunk). c ∷ others) (chunks_of-filled fill rest)

pub byte_at-filled : (fill : ℕ) (chunks : List Chunk) (address : ℕ) → granted chunks address ≡ true →
    byte_at (filled fill chunks) address ≡ fill
byte_at-filled fill [] address within = cc
byte_at-filled fill (c ∷ rest) address within =
    let block = filled_block fill c in
    let same : covers (chunk_of block) address ≡ covers c address =
    ap (λ (len : ℕ). covers (chunk c.at len) address) (length-replicate c.len fill) in
    ⊎_elim
    (λ here.
    let place = covered block address (same ∙ here) in
    byte_at-here block (filled fill rest) address (same ∙ here)
    ∙ get_or-replicate c.len (address - c.at) fill 0 (omega (arith, length-replicate c.len fill)))
    (λ later.
    let rest_within : granted rest address ≡ true = sym (ap (λ (first : Bool). first || granted rest address) later) ∙ within in
    byte_at-later block (filled fill rest) address (same ∙ later) ∙ byte_at-filled fill rest address rest_within)
    (cases_Bool (covers c address))

pub AreBytes-filled : (fill : ℕ) (chunks : List Chunk) → fill < 256 → AreBytes (filled fill chunks)
AreBytes-filled fill [] small = tt
AreBytes-filled fill (c ∷ rest) small =
    (All-replicate (λ (b : ℕ). b < 256) c.len fill small, AreBytes-filled fill rest small)

pub AreBlocks-filled : (fill : ℕ) (chunks : List Chunk) → fill < 256 → AreGrants chunks → AreBlocks (filled fill chunks)
AreBlocks-filled fill chunks small grants =
    record {
      grants = subst AreGrants (sym (chunks_of-filled fill chunks)) grants;
      bytes = AreBytes-filled fill chunks small;
    }
