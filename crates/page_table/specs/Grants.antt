-- Granted memory: a list of chunks.
use Rattle.std.specs.Prelude.{ℕ, zero, suc, ◌+◌, ◌%◌, ◌^◌, ◌≤◌, ◌≡◌, Bool, ◌&&◌, List, [], ◌∷◌, length, min, max, Option, Some, None}
use Rattle.std.specs.Prelude.{if◌then◌else◌, nat_lt, nat_le, ◌==◌, slice_index_or}
use Rattle.std.specs.List.{list_any, sum_by}

-- a chunk: the address of its first byte, and its length in bytes
pub record Chunk : Type 0 where
  pub at : ℕ
  pub len : ℕ

abbrev pub chunk : ℕ → ℕ → Chunk
chunk at len = record { at = at; len = len }

-- the chunk at a place of a list, counted from 0
abbrev pub chunk_at : List Chunk → ℕ → Chunk
chunk_at chunks place = slice_index_or chunks place (chunk 0 0)

abbrev pub covers : Chunk → ℕ → Bool
covers c address = nat_le c.at address && nat_lt address (c.at + c.len)

-- an address is granted where some chunk covers it
abbrev pub granted : List Chunk → ℕ → Bool
granted chunks address = list_any (λ c. covers c address) chunks

-- the first byte of a range that is not granted: the range has so many bytes from the address on
abbrev pub first_ungranted : List Chunk → ℕ → ℕ → Option ℕ
first_ungranted chunks address zero = None
first_ungranted chunks address (suc count) =
    if granted chunks address then first_ungranted chunks (address + 1) count else Some address

-- a chunk shares a byte with the addresses from one up to another
abbrev pub is_met : ℕ → ℕ → Chunk → Bool
is_met from to c = nat_lt (max from c.at) (min to (c.at + c.len))

-- the bytes of a page
abbrev pub page_size : ℕ
page_size = 4096

-- how many chunks may be granted, and how many bytes they may have together
abbrev pub max_chunks : ℕ
max_chunks = 4096

abbrev pub max_bytes : ℕ
max_bytes = 16777216

-- a page: it begins at a multiple of its size
abbrev pub is_page : Chunk → Bool
is_page c = c.at % page_size == 0 && c.len == page_size

-- a chunk that can be granted
pub record IsChunk (c : Chunk) : Type 0 where
  pub at_aligned : c.at % 4 ≡ 0
  pub len_aligned : c.len % 4 ≡ 0
  pub some : 4 ≤ c.len
  pub ends : c.at + c.len ≤ 2 ^ 32

-- chunks in rising order from an address on and share no byte
abbrev pub AreRising : ℕ → List Chunk → Type 0
AreRising from [] = Unit {0}
AreRising from (c ∷ rest) = (from ≤ c.at) × IsChunk c × AreRising (c.at + c.len) rest

-- how many bytes the chunks have together
abbrev pub total : List Chunk → ℕ
total chunks = sum_by (λ c. c.len) chunks

-- the chunks of one memory
pub record AreGrants (chunks : List Chunk) : Type 0 where
  pub few : length chunks ≤ max_chunks
  pub small : total chunks ≤ max_bytes
  pub rising : AreRising 0 chunks
