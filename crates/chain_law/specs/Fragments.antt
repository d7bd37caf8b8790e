-- Parts that are fragments of descriptions: their sections, as they are in the chain.
use Rattle.std.specs.Prelude.{◌≡◌, ℕ, ◌<◌, length, Some}
use Rattle.page_table.specs.Taken.{in_order}
use Rattle.machine_model.specs.Paths.{AreWithin, IsSound}
use Rattle.capture_desc.specs.declared.desc.Desc.{Desc}
use Rattle.picture_model.specs.Described.{IsDescription, memory_of}
use Rattle.picture_model.specs.Geometry.{IsFrame}
use Rattle.picture_model.specs.Programs.{sections_words}
use Rattle.chain_model.specs.Chains.{Chain, IsChain, IsSoundChain, alone, head, next, part_of}

-- a part's words are those of a description's sections at its head, of which the last leads to what is after its
-- slot
pub record IsFragment (chain : Chain) (part : ℕ) (d : Desc) : Type 0 where
  pub description : IsDescription d
  pub frame : IsFrame d
  pub words : (part_of chain part).words ≡ sections_words d (head chain part) (next chain (part_of chain part).slot)

-- the memory of the description is among what the chain may write
abbrev pub GrantsAll : Chain → Desc → Type 0
GrantsAll chain d = AreWithin (in_order (memory_of d)) chain.grants

abbrev pub FragmentIsSound : Type 0
FragmentIsSound =
    (chain : Chain) (part : ℕ) (d : Desc) → IsChain chain → part < length chain.parts → IsFragment chain part d → GrantsAll chain d →
    IsSound (alone chain (Some part))

-- each part is such a fragment
abbrev pub AreFragments : Chain → Type 0
AreFragments chain = (part : ℕ) → part < length chain.parts → (d : Desc) × IsFragment chain part d × GrantsAll chain d

abbrev pub FragmentsAreSound : Type 0
FragmentsAreSound = (chain : Chain) → IsChain chain → AreFragments chain → IsSoundChain chain
