-- Why two descriptions make no chain.
use Rattle.std.specs.Prelude.{◌≡◌, ℕ, ◌%◌, ◌||◌, ◌==◌, ⊤, Bool, Option, Some, None, if◌then◌else◌, length, nat_lt}
use Rattle.std.specs.List.{list_any, position}
use Rattle.page_table.specs.Grants.{max_bytes, max_chunks, total}
use Rattle.page_table.specs.Taken.{shares}
use Rattle.capture_desc.specs.declared.desc.Desc.{Desc}
use Rattle.picture_model.specs.Described.{memory_of}
use Rattle.slot_chain.specs.Making.{is_on_page, is_too_long}
use Rattle.chain_model.specs.declared.ChainFault.{ChainFault}
use Rattle.chain_model.specs.declared.ChainFault.TheVariants.{Base, Shared, TooMany, TooLong, OnPage}
use Rattle.slot_chain.specs.declared.faults.DoubleBufferError.{DoubleBufferError}
use Rattle.slot_chain.specs.declared.faults.DoubleBufferError.TheVariants.{Fault, Memory}
use Rattle.slot_chain.specs.Pairs.{chain_of_two, memory_of_two}

-- the number of the first chunk of the second description that shares a byte with one of the first
abbrev pub shared_chunk : Desc → Desc → Option ℕ
shared_chunk first second = position (λ c. list_any (shares c) (memory_of first)) (memory_of second)

-- there are more chunks, or bytes in them, than may be granted
abbrev pub are_too_many : Desc → Desc → Bool
are_too_many first second =
    let all = memory_of_two first second in nat_lt max_chunks (length all) || nat_lt max_bytes (total all)

-- the fault of the chain's place, apart from its base
abbrev pub place_fault : Desc → Desc → Option ChainFault
place_fault first second =
    let chain = chain_of_two first second in
    if is_too_long chain then Some TooLong else (if is_on_page chain then Some OnPage else None)

abbrev pub unless_shared : Option ℕ → Option ChainFault → Option ChainFault
unless_shared (Some number) later = Some (Shared number)
unless_shared None later = later

abbrev pub memory_fault : Desc → Desc → Option ChainFault
memory_fault first second =
    unless_shared (shared_chunk first second)
    (if are_too_many first second then Some TooMany else place_fault first second)

-- the first fault of two descriptions
abbrev pub chain_fault : Desc → Desc → Option ChainFault
chain_fault first second = if first.base % 4 == 0 then memory_fault first second else Some Base

-- a refusal is the first fault; it may be out of memory at any two descriptions
abbrev pub Refuses : Option ChainFault → DoubleBufferError → Type 0
Refuses found (Fault fault) = found ≡ Some fault
Refuses found Memory = ⊤
