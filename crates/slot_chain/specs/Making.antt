-- When a chain can be made, and what is reported where it can't.
use Rattle.std.specs.Prelude.{◌≡◌, ℕ, ⊤, ◌+◌, ◌*◌, ◌%◌, ◌<◌, ◌≤◌, ◌||◌, ◌==◌, Bool, false, List, length, Option, Some, None, if◌then◌else◌}
use Rattle.std.specs.Prelude.{nat_lt, slice_index_or}
use Rattle.std.specs.List.{list_any}
use Rattle.machine_model.specs.Paths.{IsFirstBad, IsSound, RiscProgram, max_words, shares_byte}
use Rattle.page_table.specs.Grants.{Chunk, is_met}
use Rattle.machine_model.specs.declared.Cause.{Cause}
use Rattle.chain_model.specs.Chains.{Chain, alone, chain_limit, patched_words, unpatched}
use Rattle.risc_verify.specs.declared.walk.Why.{Why}
use Rattle.risc_verify.specs.declared.walk.Why.TheVariants as why
use Rattle.slot_chain.specs.declared.making.ChainError.{ChainError}
use Rattle.slot_chain.specs.declared.making.ChainError.TheVariants.{Base, TooLong, OnPage, Bad, Memory}

-- how many words a chain has; all its programs have as many
abbrev pub word_count : Chain → ℕ
word_count chain = length (patched_words chain (unpatched chain))

abbrev pub is_too_long : Chain → Bool
is_too_long chain =
    nat_lt max_words (word_count chain) || nat_lt chain_limit (chain.base + 4 * word_count chain)

abbrev pub is_on_page : Chain → Bool
is_on_page chain = list_any (shares_byte (alone chain None)) chain.grants

-- the first fault of a chain's place
abbrev pub place_fault : Chain → Option ChainError
place_fault chain =
    if chain.base % 4 == 0
    then (if is_too_long chain then Some TooLong else (if is_on_page chain then Some OnPage else None))
    else Some Base

-- with each of the first parts alone patched in the program is sound
abbrev pub AreSound : Chain → ℕ → Type 0
AreSound chain count = (part : ℕ) → part < count → IsSound (alone chain (Some part))

-- so many words from an address on are a program's place, apart from the grants
pub record IsPlaced (base count : ℕ) (grants : List Chunk) : Type 0 where
  pub aligned : base % 4 ≡ 0
  pub few : count ≤ max_words
  pub ends : base + 4 * count ≤ chain_limit
  pub apart : list_any (is_met base (base + 4 * count)) grants ≡ false

-- the programs in which each part alone is patched in, in their order; they are sound
pub record AreAlone (chain : Chain) (programs : List RiscProgram) : Type 0 where
  pub count : length programs ≡ length chain.parts
  pub each : (part : ℕ) → part < length chain.parts → slice_index_or programs part (alone chain None) ≡ alone chain (Some part)
  pub sound : AreSound chain (length chain.parts)

-- what is reported of a part whose program isn't accepted
abbrev pub refusal : ℕ → Why → ChainError
refusal part (why.Bad address number cause) = Bad part address number cause
refusal part why.Memory = Memory

-- the first part whose program isn't sound
pub record IsFirstUnsound (chain : Chain) (part address number : ℕ) (cause : Cause) : Type 0 where
  pub there : part < length chain.parts
  pub before : AreSound chain part
  pub bad : IsFirstBad (alone chain (Some part)) address number cause

abbrev pub RefusesPart : Chain → ChainError → Type 0
RefusesPart chain (Bad part address number cause) = IsFirstUnsound chain part address number cause
RefusesPart chain Memory = ⊤
RefusesPart chain _ = ⊥

-- what a refusal is: the first fault of the chain's place, or the first part whose program isn't sound; it may be out of
-- memory at any chain
abbrev pub Refuses : Chain → ChainError → Type 0
Refuses chain (Bad part address number cause) =
    (place_fault chain ≡ None) × IsFirstUnsound chain part address number cause
Refuses chain Memory = ⊤
Refuses chain fault = place_fault chain ≡ Some fault
