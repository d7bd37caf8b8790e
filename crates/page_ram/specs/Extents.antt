-- How the chunks of a memory lie in one block of bytes.
use Rattle.std.specs.Prelude.{◌≡◌, ℕ, ◌+◌, ◌-◌, ◌<◌, ◌≤◌, List, [], ◌∷◌, length, map, take, drop, slice_index_or, slice_set}
use Rattle.page_table.specs.Grants.{Chunk, chunk, total}
use Rattle.page_table.specs.Blocks.{Block, AreBlocks}
use Rattle.page_ram.specs.declared.raw_ram.Extent.{Extent}
use Rattle.page_ram.specs.Places.{HasAddress}

abbrev pub extent_chunk : Extent → Chunk
extent_chunk extent = chunk extent.at extent.len

abbrev pub extent_chunks : List Extent → List Chunk
extent_chunks extents = map extent_chunk extents

-- the chunk with its bytes
abbrev pub extent_block : List ℕ → Extent → Block
extent_block bytes extent = record { at = extent.at; bytes = take extent.len (drop extent.from bytes) }

abbrev pub laid : List ℕ → List Extent → List Block
laid bytes extents = map (extent_block bytes) extents

-- the extents lie one behind the other from a place on
abbrev pub AreLaid : ℕ → List Extent → Type 0
AreLaid from [] = Unit {0}
AreLaid from (extent ∷ rest) = (extent.from ≡ from) × AreLaid (from + extent.len) rest

-- the extents cut the block into the chunks of one memory
pub record AreCut (bytes : List ℕ) (extents : List Extent) : Type 0 where
  pub blocks : AreBlocks (laid bytes extents)
  pub lie : AreLaid 0 extents
  pub long : length bytes ≡ total (extent_chunks extents)

abbrev pub extent_at : List Extent → ℕ → Extent
extent_at extents place = slice_index_or extents place (record { at = 0; len = 0; from = 0 })

-- the byte at an address is in the chunk at the place, and at the index of the block
abbrev pub StandsAt : List Extent → ℕ → ℕ → ℕ → Type 0
StandsAt extents address place index =
    let extent = extent_at extents place in
    HasAddress (extent_chunks extents) place address × (index ≡ extent.from + (address - extent.at))

-- bytes at addresses from one on are in the chunk at the place, and from the index of the block on
pub record StandsRun (extents : List Extent) (place address count index : ℕ) : Type 0 where
  pub there : place < length extents
  pub begins : (extent_at extents place).at ≤ address
  pub ends : address + count ≤ (extent_at extents place).at + (extent_at extents place).len
  pub indexed : index ≡ (extent_at extents place).from + (address - (extent_at extents place).at)

-- a list with other items from an index on
abbrev pub set_run : {X : Type 0} → List X → ℕ → List X → List X
set_run old index [] = old
set_run old index (item ∷ items) = set_run (slice_set old index item) (index + 1) items
