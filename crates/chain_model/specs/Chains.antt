-- A chain: a loop of slots, and parts to which the slots may lead. Slots and parts are counted from 0.
use Rattle.std.specs.Prelude.{◌≡◌, ℕ, suc, ◌+◌, ◌*◌, ◌%◌, ◌^◌, ◌<◌, ◌≤◌, false, All, List, [], ◌∷◌, ◌++◌, length, take, replicate, Option}
use Rattle.std.specs.Prelude.{Some, None, slice_index_or, slice_set}
use Rattle.std.specs.List.{flat_map}
use Rattle.page_table.specs.Grants.{Chunk}
use Rattle.machine_model.specs.Paths.{RiscProgram, IsSound, max_words, one_span, shares_byte}
use Rattle.chain_model.specs.declared.PartWords.{PartWords}

-- the address of the first slot, the number of slots, the parts, and the memory that may be written
pub record Chain : Type 0 where
  pub base : ℕ
  pub slots : ℕ
  pub parts : List PartWords
  pub grants : List Chunk

-- the part of a number
abbrev pub part_of : Chain → ℕ → PartWords
part_of chain part = slice_index_or chain.parts part (record { slot = 0; words = [] })

-- the part to which each slot leads, or none: an entry for each slot
abbrev pub Patching : Type 0
Patching = List (Option ℕ)

abbrev pub part_at : Patching → ℕ → Option ℕ
part_at patching slot = slice_index_or patching slot None

-- addresses

abbrev pub words_of_parts : List PartWords → List ℕ
words_of_parts parts = flat_map (λ part. part.words) parts

-- a slot is a JUMP, of two words; behind the slots is the JUMP to the base, and behind this the parts in their order
abbrev pub slot_at : Chain → ℕ → ℕ
slot_at chain slot = chain.base + 8 * slot

abbrev pub head : Chain → ℕ → ℕ
head chain part = slot_at chain (chain.slots + 1) + 4 * length (words_of_parts (take part chain.parts))

-- what is after a slot: the next one, or behind the last the JUMP to the base
abbrev pub next : Chain → ℕ → ℕ
next chain slot = slot_at chain (slot + 1)

-- where a slot leads
abbrev pub target : Chain → ℕ → Option ℕ → ℕ
target chain slot None = next chain slot
target chain slot (Some part) = head chain part

-- words

-- the first word of a JUMP without control bits
abbrev pub jump_word : ℕ
jump_word = 0x70000000

-- the JUMPs of the slots from a number on, and the JUMP to the base
abbrev pub loop_words : Chain → ℕ → Patching → List ℕ
loop_words chain slot [] = jump_word ∷ chain.base ∷ []
loop_words chain slot (part ∷ rest) = jump_word ∷ target chain slot part ∷ loop_words chain (suc slot) rest

-- the words in which each slot leads where a patching has it, and the program that they are
abbrev pub patched_words : Chain → Patching → List ℕ
patched_words chain patching = loop_words chain 0 patching ++ words_of_parts chain.parts

abbrev pub patched : Chain → Patching → RiscProgram
patched chain patching = one_span chain.base (patched_words chain patching) chain.grants

-- patchings

abbrev pub unpatched : Chain → Patching
unpatched chain = replicate chain.slots None

-- a part alone is patched in, or none
abbrev pub alone_in : Chain → Option ℕ → Patching
alone_in chain None = unpatched chain
alone_in chain (Some part) = slice_set (unpatched chain) (part_of chain part).slot (Some part)

abbrev pub alone : Chain → Option ℕ → RiscProgram
alone chain part = patched chain (alone_in chain part)

-- none, or a part of the chain
abbrev pub IsPart : Chain → Option ℕ → Type 0
IsPart chain None = Unit {0}
IsPart chain (Some part) = part < length chain.parts

-- none, or a part to which a slot may lead
abbrev pub Belongs : Chain → ℕ → Option ℕ → Type 0
Belongs chain slot None = Unit {0}
Belongs chain slot (Some part) = (part < length chain.parts) × ((part_of chain part).slot ≡ slot)

pub record IsPatching (chain : Chain) (patching : Patching) : Type 0 where
  pub long : length patching ≡ chain.slots
  pub belong : (slot : ℕ) → slot < chain.slots → Belongs chain slot (part_at patching slot)

-- chains

abbrev pub max_slots : ℕ
max_slots = 16

abbrev pub max_parts : ℕ
max_parts = 16

-- it ends at or below this address, so the second word of a slot is no first word of an instruction: its opcode is
-- the reserved one, 0
abbrev pub chain_limit : ℕ
chain_limit = 2 ^ 28

pub record IsChain (chain : Chain) : Type 0 where
  pub slots : (1 ≤ chain.slots) × (chain.slots ≤ max_slots)
  pub parts : length chain.parts ≤ max_parts
  pub belong : All (λ part. part.slot < chain.slots) chain.parts
  pub aligned : chain.base % 4 ≡ 0
  pub few : length (patched_words chain (unpatched chain)) ≤ max_words
  pub ends : chain.base + 4 * length (patched_words chain (unpatched chain)) ≤ chain_limit
  pub apart : All (λ c. shares_byte (alone chain None) c ≡ false) chain.grants

-- with each part alone patched in the program is sound
abbrev pub IsSoundChain : Chain → Type 0
IsSoundChain chain = (part : ℕ) → part < length chain.parts → IsSound (alone chain (Some part))
