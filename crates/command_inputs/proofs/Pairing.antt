-- The second description of a chain, which is checked with the first.
use Rattle.std.proofs.Common.{◌≡◌, List, ℕ, ◌∷◌, Some, Result, Ok, Err, IfOk}
use Rattle.std.specs.Prelude.{OnOk}
use Rattle.capture_desc.specs.declared.desc.Desc.{Desc}
use Rattle.capture_desk.specs.Desks.{Seen}
use Rattle.chain_model.specs.declared.ChainFault.{ChainFault}
use Rattle.slot_chain.specs.Faults.{chain_fault}
use Rattle.slot_chain.specs.Pairs.{first_of_two}
use Rattle.slot_chain.specs.Promises.{IsPair}
use Rattle.picture_model.specs.Geometry.{frame_fault}
use Rattle.slot_chain.specs.States.{ChainState}
use Rattle.command_texts.specs.declared.refusal.Refusal.{Refusal}
use Rattle.command_texts.specs.declared.refusal.Refusal.TheVariants.{BadChain, NoMemory, ReadFault}
use Rattle.command_steps.specs.Inputs.{Input, OfInput, StopsAt}
use Rattle.command_steps.specs.Reading.{Takes}
use Rattle.command_steps.proofs.Inputs.{OfInput-map}
use Rattle.command_steps.proofs.Judging.{takes_as}
use Rattle.command_inputs.specs.Chains.{HasFault, HoldsSecond, HoldsSecondWith, IsBadSecond, IsBadWith, IsFrameFile, IsPairedBy}
use Rattle.command_inputs.specs.Chains.{IsRefusedPair, a_second_description, a_second_with, frame_of, second_files, second_with}
use Rattle.command_inputs.specs.Descriptions.{IsBadDescBy}

-- ---- the second, where the first is known

module _ (first : Desc) (name : List ℕ) (old new : Seen) where
  -- a file that gives no description of its own
  pub frame_stops : (refusal : Refusal) → StopsAt (IsBadDescBy frame_fault) name refusal old new →
      StopsAt (IsBadWith first) name refusal old new
  frame_stops ReadFault h = h
  frame_stops NoMemory h = tt
  frame_stops (BadChain fault) h = absurd h
  frame_stops refusal h = h

  module _ (second : Desc) (reads : OfInput name old.told.inputs (λ bytes. IsFrameFile bytes second)) where
    pub pair_stops : (refusal : Refusal) → IsRefusedPair first second refusal → StopsAt (IsBadWith first) name refusal old new
    pair_stops NoMemory h = tt
    pair_stops (BadChain fault) h = OfInput-map name old.told.inputs (λ bytes. IsFrameFile bytes second) _ (λ bytes e. (second, e, h)) reads
    pair_stops refusal h = absurd h

    pub paired : (r : Result ChainState Refusal) → IfOk r (λ buffer. buffer ≡ first_of_two first second) → OnOk r (IsPair first second) →
        IfOk r (IsPairedBy first name old.told.inputs)
    paired (Ok buffer) begins pair = record { second = second; reads = reads; pair = pair; begins = begins }
    paired (Err refusal) begins pair = tt

    pub holds_pair : (r : Result ChainState Refusal) → OnOk r (IsPair first second) →
        IfOk r (λ _. OfInput name old.told.inputs (HoldsSecondWith first))
    holds_pair (Ok buffer) pair =
        OfInput-map name old.told.inputs (λ bytes. IsFrameFile bytes second) (HoldsSecondWith first) (λ bytes e. (second, e, pair)) reads
    holds_pair (Err refusal) pair = tt

-- ---- the first was read from a file

module _ (first_name name : List ℕ) (first : Desc) (old new : Seen)
    (reads : OfInput first_name old.told.inputs (λ bytes. IsFrameFile bytes first)) where
  holds_second : (bytes : List ℕ) → HoldsSecondWith first bytes → HoldsSecond first_name old.told.inputs bytes
  holds_second bytes (second, is, pair) =
      OfInput-map first_name old.told.inputs (λ first_bytes. IsFrameFile first_bytes first) _
      (λ first_bytes e. (first, second, record { are = record { reads_first = e; reads_second = is }; pair = pair })) reads

  has_fault : (fault : ChainFault) (bytes : List ℕ) → (second : Desc) × (frame_of bytes ≡ Ok second)
      × (chain_fault first second ≡ Some fault) → OfInput first_name old.told.inputs (λ first_bytes. HasFault first_bytes bytes fault)
  has_fault fault bytes (second, is, faulty) =
      OfInput-map first_name old.told.inputs (λ first_bytes. IsFrameFile first_bytes first)
      (λ first_bytes. HasFault first_bytes bytes fault)
      (λ first_bytes e. record { first = first; second = second; are = record { reads_first = e; reads_second = is }; faulty = faulty })
      reads

  second_stops : (refusal : Refusal) → StopsAt (IsBadWith first) name refusal old new →
      StopsAt (IsBadSecond first_name) name refusal old new
  second_stops ReadFault h = h
  second_stops NoMemory h = tt
  second_stops (BadChain fault) h =
      OfInput-map name old.told.inputs _ (λ bytes. OfInput first_name old.told.inputs (λ first_bytes. HasFault first_bytes bytes fault))
      (has_fault fault) h
  second_stops refusal h = h

  -- it is taken as one that is checked by both files
  pub second_taken : {A : Type 0} (inputs : List Input) (r : Result A Refusal) → Takes (a_second_with first name ∷ inputs) r old new →
      Takes (a_second_description first_name name ∷ inputs) r old new
  second_taken inputs r h =
      takes_as name (second_with first) (second_files first_name) inputs r old new
      (λ good. OfInput-map name old.told.inputs (HoldsSecondWith first) (HoldsSecond first_name old.told.inputs) holds_second good)
      second_stops h
