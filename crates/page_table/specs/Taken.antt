-- Which grants a list of pages or chunks makes, or the first fault of the list.
use Rattle.std.specs.Prelude.{ℕ, ◌+◌, ◌%◌, ◌^◌, ◌≡◌, Bool, not, ◌&&◌, ◌||◌, List, [], ◌∷◌, ◌++◌, length, map, Option, Some, None, Result}
use Rattle.std.specs.Prelude.{Ok, Err, if◌then◌else◌, nat_lt, nat_le, ◌==◌, ⊤}
use Rattle.std.specs.List.{list_any, position}
use Rattle.page_table.specs.Grants.{Chunk, chunk, max_bytes, max_chunks, page_size, total}
use Rattle.page_table.specs.declared.PageFault.{PageFault}
use Rattle.page_table.specs.declared.PageFault.TheVariants.{TooMany, Unaligned, Twice, Memory}

-- the chunks of a list of addresses with their lengths
abbrev pub pair_chunk : ℕ × ℕ → Chunk
pair_chunk pair = chunk pair.0 pair.1

abbrev pub listed : List (ℕ × ℕ) → List Chunk
listed pairs = map pair_chunk pairs

-- the page at an address
abbrev pub page_at : ℕ → Chunk
page_at address = chunk address page_size

-- address and length are multiples of 4, there are some bytes, and the last is an address
abbrev pub is_aligned : Chunk → Bool
is_aligned c = c.at % 4 == 0 && c.len % 4 == 0 && nat_lt 0 c.len && nat_le (c.at + c.len) (2 ^ 32)

abbrev pub is_page_address : ℕ → Bool
is_page_address address = address % page_size == 0

-- two chunks share a byte
abbrev pub shares : Chunk → Chunk → Bool
shares c d = nat_lt c.at (d.at + d.len) && nat_lt d.at (c.at + c.len)

-- the place of the first chunk that shares a byte with an earlier one; some earlier chunks are before the list
abbrev pub first_shared : List Chunk → List Chunk → Option ℕ
first_shared earlier [] = None
first_shared earlier (c ∷ rest) =
    if list_any (shares c) earlier then Some (length earlier) else first_shared (earlier ++ c ∷ []) rest

-- a rising list with one more chunk
abbrev pub placed : Chunk → List Chunk → List Chunk
placed c [] = c ∷ []
placed c (d ∷ rest) = if nat_lt c.at d.at then c ∷ d ∷ rest else d ∷ placed c rest

-- a rising list with more chunks
abbrev pub all_placed : List Chunk → List Chunk → List Chunk
all_placed rising [] = rising
all_placed rising (c ∷ rest) = all_placed (placed c rising) rest

abbrev pub in_order : List Chunk → List Chunk
in_order chunks = all_placed [] chunks

-- the grants, or a fault
abbrev pub Taking : Type 0
Taking = Result (List Chunk) PageFault

abbrev pub unless_shared : Option ℕ → List Chunk → Taking
unless_shared (Some place) chunks = Err (Twice place)
unless_shared None chunks = Ok (in_order chunks)

abbrev pub unless_unaligned : Option ℕ → List Chunk → Taking
unless_unaligned (Some place) chunks = Err (Unaligned place)
unless_unaligned None chunks = unless_shared (first_shared [] chunks) chunks

abbrev pub unless_many : Bool → Option ℕ → List Chunk → Taking
unless_many many unaligned chunks =
    if many then Err TooMany else unless_unaligned unaligned chunks

-- from the addresses of pages
abbrev pub taken_pages : List ℕ → Taking
taken_pages pages =
    unless_many (nat_lt max_chunks (length pages)) (position (λ page. not (is_page_address page)) pages)
    (map page_at pages)

-- from chunks
abbrev pub taken_chunks : List (ℕ × ℕ) → Taking
taken_chunks pairs =
    unless_many (nat_lt max_chunks (length pairs) || nat_lt max_bytes (total (listed pairs)))
    (position (λ pair. not (is_aligned (pair_chunk pair))) pairs) (listed pairs)

-- a call answers this, or that it is out of memory
abbrev pub Answers : Taking → Taking → Type 0
Answers wanted (Ok grants) = wanted ≡ Ok grants
Answers wanted (Err Memory) = ⊤
Answers wanted (Err fault) = wanted ≡ Err fault
