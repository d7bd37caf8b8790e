-- Two description files that are read and checked, and make a chain.
use Rattle.std.specs.Prelude.{◌≡◌, ℕ, true, ⊤, List, Option, Some, Result, Ok}
use Rattle.capture_desk.specs.Desks.{Inputs}
use Rattle.capture_desc.specs.declared.desc.Desc.{Desc}
use Rattle.picture_model.specs.Geometry.{frame_fault}
use Rattle.chain_model.specs.declared.ChainFault.{ChainFault}
use Rattle.slot_chain.specs.Faults.{chain_fault}
use Rattle.slot_chain.specs.Pairs.{first_of_two}
use Rattle.slot_chain.specs.Promises.{IsPair}
use Rattle.slot_chain.specs.States.{ChainState}
use Rattle.command_texts.specs.declared.refusal.Refusal.{Refusal}
use Rattle.command_texts.specs.declared.refusal.Refusal.TheVariants.{BadChain, NoMemory}
use Rattle.command_steps.specs.Inputs.{Always, ByBytes, Input, Judge, OfInput}
use Rattle.command_inputs.specs.Descriptions.{IsBadDescBy, description_by, longest_description}

-- ---- one description

-- the description of a file, whose program isn't looked at; or the first refusal
abbrev pub frame_of : List ℕ → Result Desc Refusal
frame_of bytes = description_by frame_fault bytes

-- a file is that of a description whose geometry has no fault
abbrev pub IsFrameFile : List ℕ → Desc → Type 0
IsFrameFile bytes d = frame_of bytes ≡ Ok d

abbrev pub HoldsFrame : List ℕ → Type 0
HoldsFrame bytes = (d : Desc) × IsFrameFile bytes d

abbrev pub frame_files : Judge
frame_files =
    record { most = longest_description; kept = true; MayGoOn = Always; IsGood = ByBytes HoldsFrame; IsBad = IsBadDescBy frame_fault }

-- ---- the second description, which is checked with the first

-- two files are those of two descriptions
pub record AreFrames (first_bytes second_bytes : List ℕ) (first second : Desc) : Type 0 where
  pub reads_first : frame_of first_bytes ≡ Ok first
  pub reads_second : frame_of second_bytes ≡ Ok second

-- which make a chain
pub record GivesChain (first_bytes second_bytes : List ℕ) (first second : Desc) : Type 0 where
  pub are : AreFrames first_bytes second_bytes first second
  pub pair : IsPair first second

-- or have this fault
pub record HasFault (first_bytes second_bytes : List ℕ) (fault : ChainFault) : Type 0 where
  pub first : Desc
  pub second : Desc
  pub are : AreFrames first_bytes second_bytes first second
  pub faulty : chain_fault first second ≡ Some fault

abbrev pub HoldsSecond : List ℕ → Option Inputs → List ℕ → Type 0
HoldsSecond first_name told bytes =
    OfInput first_name told (λ first_bytes. (first second : Desc) × GivesChain first_bytes bytes first second)

abbrev pub IsBadSecond : List ℕ → List ℕ → Refusal → Option Inputs → Type 0
IsBadSecond first_name name (BadChain fault) told =
    OfInput name told (λ bytes. OfInput first_name told (λ first_bytes. HasFault first_bytes bytes fault))
IsBadSecond first_name name refusal told = IsBadDescBy frame_fault name refusal told

abbrev pub second_files : List ℕ → Judge
second_files first_name =
    record { most = longest_description; kept = true; MayGoOn = Always; IsGood = HoldsSecond first_name; IsBad = IsBadSecond first_name }

-- ---- as inputs

abbrev pub a_first_description : List ℕ → Input
a_first_description name = record { name = name; judge = frame_files }

abbrev pub a_second_description : List ℕ → List ℕ → Input
a_second_description first_name name = record { name = name; judge = second_files first_name }

-- ---- the second, where the first is known

-- two descriptions make no chain; running out of memory is free
abbrev pub IsRefusedPair : Desc → Desc → Refusal → Type 0
IsRefusedPair first second (BadChain fault) = chain_fault first second ≡ Some fault
IsRefusedPair first second NoMemory = ⊤
IsRefusedPair first second _ = ⊥

-- it has a fault with the first, or none of its own
abbrev pub IsBadWith : Desc → List ℕ → Refusal → Option Inputs → Type 0
IsBadWith first name (BadChain fault) told =
    OfInput name told (λ bytes. (second : Desc) × (frame_of bytes ≡ Ok second) × (chain_fault first second ≡ Some fault))
IsBadWith first name refusal told = IsBadDescBy frame_fault name refusal told

-- a file is that of a description that makes a chain with the first
abbrev pub HoldsSecondWith : Desc → List ℕ → Type 0
HoldsSecondWith first bytes = (second : Desc) × (frame_of bytes ≡ Ok second) × IsPair first second

abbrev pub second_with : Desc → Judge
second_with first =
    record { most = longest_description; kept = true; MayGoOn = Always; IsGood = ByBytes (HoldsSecondWith first); IsBad = IsBadWith first }

abbrev pub a_second_with : Desc → List ℕ → Input
a_second_with first name = record { name = name; judge = second_with first }

-- the chain, before its first step, of a description and of that of a second file
pub record IsPairedBy (first : Desc) (name : List ℕ) (told : Option Inputs) (buffer : ChainState) : Type 0 where
  pub second : Desc
  pub reads : OfInput name told (λ bytes. IsFrameFile bytes second)
  pub pair : IsPair first second
  pub begins : buffer ≡ first_of_two first second
