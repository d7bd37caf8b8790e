-- Which ring a ring file describes, or its first fault.
use Rattle.std.specs.Prelude.{◌≡◌, ℕ, ◌+◌, ◌*◌, ◌^◌, Bool, not, ◌&&◌, List, [], ◌∷◌, length, Option, Some, None, option_map, Result, Ok}
use Rattle.std.specs.Prelude.{Err, codes, bytes_eq, if◌then◌else◌, nat_le, nat_lt, ⊤}
use Rattle.std.specs.Int.{div_ceil}
use Rattle.std.specs.List.{list_any, position}
use Rattle.toml.specs.Data.{Members}
use Rattle.toml_keys.specs.declared.KeyFault.{KeyFault}
use Rattle.toml_keys.specs.declared.KeyFault.TheVariants as key_fault
use Rattle.toml_keys.specs.Keys.{document_of, least, unknown_names}
use Rattle.toml_keys.specs.Values.{◌>>=◌, is_integer, list, number, otherwise, required, told, u32_max, u32_of}
use Rattle.page_table.specs.Taken.{first_shared, is_page_address}
use Rattle.machine_model.specs.Paths.{shares_byte}
use Rattle.picture_model.specs.Geometry.{is_multiple}
use Rattle.ring_model.specs.Rings.{Ring, bytes_of, memory_of, ring_program, ring_words}
use Rattle.ring_compile.specs.declared.fault.RingKey.{RingKey}
use Rattle.ring_compile.specs.declared.fault.RingKey.TheVariants.{Blocks, Lines, LineBytes, Base, Pages, Fill}
use Rattle.ring_compile.specs.declared.fault.RingFault.{RingFault}
use Rattle.ring_compile.specs.declared.fault.RingFault.TheVariants.{NotToml, Unknown, Missing, WrongKind, OutOfRange, PageUnaligned}
use Rattle.ring_compile.specs.declared.fault.RingFault.TheVariants.{PageTwice, TooFewPages, ProgramBase, ProgramOnPage}
use Rattle.ring_compile.specs.declared.fault.RingError.{RingError}
use Rattle.ring_compile.specs.declared.fault.RingError.TheVariants.{Bad, Memory}

-- the keys

abbrev pub name_of : RingKey → List ℕ
name_of Blocks = codes "blocks"
name_of Lines = codes "lines"
name_of LineBytes = codes "line_bytes"
name_of Base = codes "base"
name_of Pages = codes "pages"
name_of Fill = codes "fill"

abbrev pub is_known : List ℕ → Bool
is_known name =
    list_any (λ key. bytes_eq name (name_of key)) (Blocks ∷ Lines ∷ LineBytes ∷ Base ∷ Pages ∷ Fill ∷ [])

-- what is read, or a fault
abbrev pub Reading : Type 0 → Type 0
Reading A = Result A RingFault

abbrev pub fault_of : RingKey → KeyFault → RingFault
fault_of key key_fault.Missing = Missing key
fault_of key key_fault.WrongKind = WrongKind key
fault_of key key_fault.OutOfRange = OutOfRange key

abbrev pub required_number : ℕ → ℕ → RingKey → Members → Reading ℕ
required_number least most key members = told (fault_of key) (required (number least most (name_of key) members))

abbrev pub number_or : ℕ → ℕ → RingKey → Members → Reading ℕ
number_or default most key members = told (fault_of key) (otherwise default (number 0 most (name_of key) members))

abbrev pub pages : Members → Reading (List ℕ)
pages members =
    told (fault_of Pages) (required (list is_integer u32_of (λ pages. nat_le (length pages) 4096) (name_of Pages) members))

-- the keys one after the other, each with what it may be and what stands for it where it is absent
abbrev pub values : Members → Reading Ring
values members =
    required_number 2 16 Blocks members >>= (λ blocks.
    required_number 1 64 Lines members >>= (λ lines.
    required_number 5 4092 LineBytes members >>= (λ line_bytes.
    number_or 4096 u32_max Base members >>= (λ base.
    pages members >>= (λ pages.
    number_or 0 255 Fill members >>= (λ fill.
    Ok (record { blocks = blocks; lines = lines; line_bytes = line_bytes; base = base; pages = pages; fill = fill })))))))

-- the place of the ring

-- a fault, where it holds
abbrev pub when : Bool → RingFault → Option RingFault
when holds fault = if holds then Some fault else None

abbrev pub page_unaligned : Ring → Option RingFault
page_unaligned r = option_map PageUnaligned (position (λ page. not (is_page_address page)) r.pages)

abbrev pub page_twice : Ring → Option RingFault
page_twice r = option_map PageTwice (first_shared [] (memory_of r))

abbrev pub too_few_pages : Ring → Option RingFault
too_few_pages r =
    let need = div_ceil (bytes_of r) 4096 in
    when (nat_lt (length r.pages) need) (TooFewPages need (length r.pages))

abbrev pub program_base : Ring → Option RingFault
program_base r =
    when (not (is_multiple 4 r.base && nat_le (r.base + 4 * length (ring_words r)) (2 ^ 32))) ProgramBase

abbrev pub program_on_page : Ring → Option RingFault
program_on_page r = when (list_any (shares_byte (ring_program r)) (memory_of r)) ProgramOnPage

-- the first of two faults
infixr 15 ◌or◌
abbrev pub ◌or◌ : Option RingFault → Option RingFault → Option RingFault
Some fault or later = Some fault
None or later = later

-- the first fault of a ring's pages, and of its program's place
abbrev pub page_fault : Ring → Option RingFault
page_fault r = page_unaligned r or page_twice r or too_few_pages r

abbrev pub place_fault : Ring → Option RingFault
place_fault r = page_fault r or program_base r or program_on_page r

abbrev pub unless_faulty : Option RingFault → Ring → Reading Ring
unless_faulty (Some fault) r = Err fault
unless_faulty None r = Ok r

-- the text

-- a key that no ring file has comes before the faults of the others
abbrev pub unless_unknown : Option (List ℕ) → Reading Ring → Reading Ring
unless_unknown None reading = reading
unless_unknown (Some name) reading = Err (Unknown name)

abbrev pub described_in : Option Members → Reading Ring
described_in None = Err NotToml
described_in (Some members) =
    unless_unknown (least (unknown_names is_known members)) (values members >>= (λ r. unless_faulty (place_fault r) r))

abbrev pub described : List ℕ → Reading Ring
described text = described_in (document_of text)

-- an answer is the reading's, or out of memory
abbrev pub Refuses : {A : Type 0} → Reading A → RingError → Type 0
Refuses reading (Bad fault) = reading ≡ Err fault
Refuses reading Memory = ⊤

abbrev pub Answers : {A : Type 0} → Reading A → Result A RingError → Type 0
Answers reading (Ok value) = reading ≡ Ok value
Answers reading (Err error) = Refuses reading error

-- what was checked has no fault, or it is the first; it may be out of memory at any fault, and at none
abbrev pub Judges : {A : Type 0} → Option RingFault → Result A RingError → Type 0
Judges fault (Ok value) = fault ≡ None
Judges fault (Err (Bad found)) = fault ≡ Some found
Judges fault (Err Memory) = ⊤
