-- Program files of words that are one after another, spelled from their fields: BRP1 where all chunks are pages, else BRP2. They stand
-- on no crate that reads or writes such files, since they test these.
use Rattle.std.specs.Prelude.{ℕ, Bool, ◌&&◌, ◌==◌, ◌%◌, List, [], ◌∷◌, ◌++◌, length, codes, if◌then◌else◌}
use Rattle.std.specs.List.{flat_map, list_all}
use Rattle.byteorder.specs.Endian.{little_bytes}

-- a chunk is its address and its length
abbrev pub is_page : ℕ × ℕ → Bool
is_page chunk = chunk.0 % 4096 == 0 && chunk.1 == 4096

abbrev pub name_of : Bool → List ℕ
name_of paged = if paged then codes "BRP1" else codes "BRP2"

-- a page has its address alone
abbrev pub chunk_bytes : Bool → ℕ × ℕ → List ℕ
chunk_bytes paged chunk = little_bytes 4 chunk.0 ++ (if paged then [] else little_bytes 4 chunk.1)

-- of a list of 2^32 members and more the length's lowest four bytes
abbrev pub bytes_in : Bool → ℕ → List ℕ → List (ℕ × ℕ) → ℕ → List ℕ
bytes_in paged base words chunks fill =
    name_of paged ++ little_bytes 4 base ++ little_bytes 4 (length words) ++ flat_map (little_bytes 4) words
    ++ little_bytes 4 (length chunks) ++ flat_map (chunk_bytes paged) chunks ++ fill ∷ []

abbrev pub program_file : ℕ → List ℕ → List (ℕ × ℕ) → ℕ → List ℕ
program_file base words chunks fill = bytes_in (list_all is_page chunks) base words chunks fill
