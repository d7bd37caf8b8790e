-- Memory: a byte for each granted address.
use Rattle.std.specs.Prelude.{ℕ, ◌+◌, ◌-◌, ◌<◌, List, [], ◌∷◌, length, map, if◌then◌else◌, slice_set, slice_index, replicate}
use Rattle.std.specs.List.{All}
use Rattle.page_table.specs.Grants.{Chunk, chunk, covers, AreGrants}

-- a stretch of memory: the address of its first byte, and its bytes
pub record Block : Type 0 where
  pub at : ℕ
  pub bytes : List ℕ

abbrev pub chunk_of : Block → Chunk
chunk_of block = chunk block.at (length block.bytes)

abbrev pub chunks_of : List Block → List Chunk
chunks_of memory = map chunk_of memory

-- memory with every byte of its chunks equal to `fill`
abbrev pub filled_block : ℕ → Chunk → Block
filled_block fill c = record { at = c.at; bytes = replicate c.len fill }

abbrev pub filled : ℕ → List Chunk → List Block
filled fill chunks = map (filled_block fill) chunks

-- the byte at an address; 0 where the address is not granted
abbrev pub byte_at : List Block → ℕ → ℕ
byte_at [] address = 0
byte_at (block ∷ rest) address =
    if covers (chunk_of block) address
    then slice_index block.bytes (address - block.at)
    else byte_at rest address

-- memory with another byte at a granted address
abbrev pub stored : List Block → ℕ → ℕ → List Block
stored [] address byte = []
stored (block ∷ rest) address byte =
    if covers (chunk_of block) address
    then record block { bytes = slice_set block.bytes (address - block.at) byte } ∷ rest
    else block ∷ stored rest address byte

-- memory with other bytes at the granted addresses from one on
abbrev pub stored_run : List Block → ℕ → List ℕ → List Block
stored_run memory address [] = memory
stored_run memory address (byte ∷ bytes) = stored_run (stored memory address byte) (address + 1) bytes

-- every number of the blocks is a byte
abbrev pub AreBytes : List Block → Type 0
AreBytes [] = Unit {0}
AreBytes (block ∷ rest) = All (λ byte. byte < 256) block.bytes × AreBytes rest

-- the blocks of one memory
pub record AreBlocks (memory : List Block) : Type 0 where
  pub grants : AreGrants (chunks_of memory)
  pub bytes : AreBytes memory
