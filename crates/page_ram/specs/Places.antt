-- Which chunk has an address.
use Rattle.std.specs.Prelude.{ℕ, ◌<◌, List, length, IsTrue}
use Rattle.page_table.specs.Grants.{Chunk, chunk_at, covers}

-- the chunk at the place has the address
abbrev pub HasAddress : List Chunk → ℕ → ℕ → Type 0
HasAddress chunks place address = (place < length chunks) × IsTrue (covers (chunk_at chunks place) address)
