-- The chain of two descriptions: two slots, and for each of them the fragments of both descriptions, its buffers.
use Rattle.std.specs.Prelude.{◌≡◌, ℕ, ◌+◌, ◌*◌, ◌<◌, List, [], ◌∷◌, ◌++◌, length, if◌then◌else◌, ◌==◌}
use Rattle.page_table.specs.Grants.{Chunk}
use Rattle.page_table.specs.Taken.{in_order}
use Rattle.capture_desc.specs.declared.desc.Desc.{Desc}
use Rattle.picture_model.specs.Described.{memory_of}
use Rattle.picture_model.specs.Programs.{sections_words}
use Rattle.chain_model.specs.declared.PartWords.{PartWords}
use Rattle.chain_model.specs.Chains.{Chain, part_of}
use Rattle.chain_model.specs.Live.{first_live}
use Rattle.slot_chain.specs.States.{ChainState, chain_of}

abbrev pub slot_count : ℕ
slot_count = 2

-- what is after a slot of a chain with this base
abbrev pub after_slot : ℕ → ℕ → ℕ
after_slot base slot = base + 8 * (slot + 1)

-- the fragment of a description for a slot, as it is at an address
abbrev pub fragment_of : ℕ → ℕ → ℕ → Desc → PartWords
fragment_of base at slot d = record { slot = slot; words = sections_words d at (after_slot base slot) }

-- fragments for slots, which are one after the other from an address on
abbrev pub fragments_from : ℕ → ℕ → List (ℕ × Desc) → List PartWords
fragments_from base at [] = []
fragments_from base at ((slot, d) ∷ rest) =
    let part = fragment_of base at slot d in part ∷ fragments_from base (at + 4 * length part.words) rest

-- of each slot the first description, and then the second
abbrev pub owners : Desc → Desc → List (ℕ × Desc)
owners first second = (0, first) ∷ (0, second) ∷ (1, first) ∷ (1, second) ∷ []

-- the fragments are behind the two slots and the JUMP to the base
abbrev pub fragments_of_two : Desc → Desc → List PartWords
fragments_of_two first second =
    fragments_from first.base (after_slot first.base slot_count) (owners first second)

-- the memory of both, in the order of the descriptions
abbrev pub memory_of_two : Desc → Desc → List Chunk
memory_of_two first second = memory_of first ++ memory_of second

-- the base is that of the first description; the memory of both may be written
abbrev pub chain_of_two : Desc → Desc → Chain
chain_of_two first second =
    chain_of first.base slot_count (fragments_of_two first second) (in_order (memory_of_two first second))

-- before the first step every granted byte is the fill of the first description
abbrev pub first_of_two : Desc → Desc → ChainState
first_of_two first second =
    let chain = chain_of_two first second in record { chain = chain; live = first_live chain first.fill }

-- the part of a slot that shows a buffer
abbrev pub part_for : ℕ → ℕ → ℕ
part_for slot buffer = 2 * slot + buffer

-- the description that a buffer shows
abbrev pub shown_by : Desc → Desc → ℕ → Desc
shown_by first second buffer = if buffer == 0 then first else second

-- two slots, with a part of its own for each buffer of each slot
pub record HasBuffers (chain : Chain) : Type 0 where
  pub slots : chain.slots ≡ slot_count
  pub parts : length chain.parts ≡ 4
  pub own : (slot buffer : ℕ) → slot < 2 → buffer < 2 → (part_of chain (part_for slot buffer)).slot ≡ slot
