-- Scatter lists: chunks in any order, and which address an offset has.
use Rattle.std.specs.Prelude.{ℕ, ◌+◌, ◌-◌, ◌^◌, ◌<◌, ◌≤◌, ◌≡◌, true, not, List, [], ◌∷◌, length, map, None, Result, Ok, Err, if◌then◌else◌}
use Rattle.std.specs.Prelude.{nat_lt, min, slice_index_or, ⊤}
use Rattle.std.specs.Int.{div_ceil}
use Rattle.std.specs.List.{position, All}
use Rattle.page_table.specs.Grants.{Chunk, page_size, total}
use Rattle.page_table.specs.Taken.{first_shared, is_aligned, is_page_address, listed, page_at, pair_chunk}
use Rattle.page_table.specs.declared.scatter.ScatterFault.{ScatterFault}
use Rattle.page_table.specs.declared.scatter.ScatterFault.TheVariants.{TooFew, Memory}

-- the address of an offset over the list of chunks
abbrev pub address_at : List Chunk → ℕ → ℕ
address_at [] offset = 0
address_at (c ∷ rest) offset =
    if nat_lt offset c.len then c.at + offset else address_at rest (offset - c.len)

-- how many bytes there are from an offset to the end of its chunk
abbrev pub room_at : List Chunk → ℕ → ℕ
room_at [] offset = 0
room_at (c ∷ rest) offset =
    if nat_lt offset c.len then c.len - offset else room_at rest (offset - c.len)

-- pages without a fault: multiples of 4,096, no two of which are the same
pub record ArePages (pages : List ℕ) : Type 0 where
  pub aligned : position (λ page. not (is_page_address page)) pages ≡ None
  pub apart : first_shared [] (map page_at pages) ≡ None

-- chunks without a fault: aligned ones, no two of which share a byte
pub record AreChunks (pairs : List (ℕ × ℕ)) : Type 0 where
  pub aligned : position (λ pair. not (is_aligned (pair_chunk pair))) pairs ≡ None
  pub apart : first_shared [] (listed pairs) ≡ None

-- a list of chunks, and how many bytes of it are used, from its beginning on
pub record ScatterList : Type 0 where
  pub chunks : List Chunk
  pub len : ℕ

abbrev pub scatter_list : List Chunk → ℕ → ScatterList
scatter_list chunks len = record { chunks = chunks; len = len }

-- aligned chunks that share no byte, and have as many bytes as are used
pub record IsScatterList (s : ScatterList) : Type 0 where
  pub aligned : All (λ c. is_aligned c ≡ true) s.chunks
  pub apart : first_shared [] s.chunks ≡ None
  pub enough : s.len ≤ total s.chunks

-- the longest run from an offset on that ends with its chunk, with the bytes used, and after so many bytes at most:
-- its address and its length
abbrev pub run_at : ScatterList → ℕ → ℕ → ℕ × ℕ
run_at s offset most =
    (address_at s.chunks offset, min most (min (room_at s.chunks offset) (s.len - offset)))

-- the scatter list of pages or chunks; a fault where more of them are needed than there are
abbrev pub if_enough : ℕ → ℕ → ScatterList → Result ScatterList ScatterFault
if_enough need have s = if nat_lt have need then Err (TooFew need have) else Ok s

abbrev pub scattered_pages : List ℕ → ℕ → Result ScatterList ScatterFault
scattered_pages pages len =
    if_enough (div_ceil len page_size) (length pages) (scatter_list (map page_at pages) len)

abbrev pub scattered_chunks : List Chunk → ℕ → Result ScatterList ScatterFault
scattered_chunks chunks len = if_enough len (total chunks) (scatter_list chunks len)

-- a call answers this, or that it is out of memory
abbrev pub Scatters : Result ScatterList ScatterFault → Result ScatterList ScatterFault → Type 0
Scatters wanted (Ok s) = wanted ≡ Ok s
Scatters wanted (Err Memory) = ⊤
Scatters wanted (Err fault) = wanted ≡ Err fault

-- the offsets at which the chunks end, where the first begins at an offset
abbrev pub ends_from : ℕ → List Chunk → List ℕ
ends_from begin [] = []
ends_from begin (c ∷ rest) = (begin + c.len) ∷ ends_from (begin + c.len) rest

-- an offset lies in the i-th chunk: so many bytes before the chunk's end
pub record Holds (pairs : List (ℕ × ℕ)) (ends : List ℕ) (offset i : ℕ) : Type 0 where
  pub within : i < length pairs
  pub end_within : i < length ends
  pub before_end : offset < slice_index_or ends i 0
  pub after_begin : slice_index_or ends i 0 - offset ≤ (slice_index_or pairs i (0, 0)).1
  pub last : (slice_index_or pairs i (0, 0)).0 + (slice_index_or pairs i (0, 0)).1 ≤ 2 ^ 32
  pub address : address_at (listed pairs) offset
      ≡ (slice_index_or pairs i (0, 0)).0 + ((slice_index_or pairs i (0, 0)).1 - (slice_index_or ends i 0 - offset))
  pub room : room_at (listed pairs) offset ≡ slice_index_or ends i 0 - offset
