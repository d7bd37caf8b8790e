-- The first fault of two descriptions, by what was tested before.
use Rattle.std.proofs.Common.{◌≡◌, ℕ, ◌%◌, Bool, true, false, Option, Some, None, refl, sym, ap, ◌∙◌, subst, if◌then◌else◌, ◌==◌}
use Rattle.std.proofs.lemmas.Bool.{eq-eqb, ne_eqb}
use Rattle.capture_desc.specs.declared.desc.Desc.{Desc}
use Rattle.chain_model.specs.Chains.{Chain}
use Rattle.slot_chain.specs.Making.{is_on_page, is_too_long}
use Rattle.chain_model.specs.declared.ChainFault.{ChainFault}
use Rattle.chain_model.specs.declared.ChainFault.TheVariants.{Base, Shared, TooMany, TooLong, OnPage}
use Rattle.slot_chain.specs.declared.faults.DoubleBufferError.{DoubleBufferError}
use Rattle.slot_chain.specs.Faults.{Refuses, are_too_many, chain_fault, memory_fault, shared_chunk, unless_shared}
use Rattle.slot_chain.specs.Pairs.{chain_of_two}

abbrev pub fault_by : Bool → Option ℕ → Bool → Bool → Bool → Option ChainFault
fault_by aligned shared many long page =
    if aligned
    then unless_shared shared (if many then Some TooMany else (if long then Some TooLong else (if page then Some OnPage else None)))
    else Some Base

module _ (first second : Desc) where
  abbrev pub whole : Chain
  whole = chain_of_two first second

  pub fault_is : (aligned : Bool) (shared : Option ℕ) (many long page : Bool) → (first.base % 4 == 0) ≡ aligned →
      shared_chunk first second ≡ shared → are_too_many first second ≡ many →
      is_too_long whole ≡ long → is_on_page whole ≡ page → chain_fault first second ≡ fault_by aligned shared many long page
  fault_is aligned shared many long page one two three four five =
      ap (λ (b : Bool). fault_by b (shared_chunk first second) (are_too_many first second) (is_too_long whole) (is_on_page whole)) one
      ∙ ap (λ (s : Option ℕ). fault_by aligned s (are_too_many first second) (is_too_long whole) (is_on_page whole)) two
      ∙ ap (λ (b : Bool). fault_by aligned shared b (is_too_long whole) (is_on_page whole)) three
      ∙ ap (λ (b : Bool). fault_by aligned shared many b (is_on_page whole)) four ∙ ap (fault_by aligned shared many long) five

  pub base_fault : (first.base % 4 ≡ 0 → ⊥) → chain_fault first second ≡ Some Base
  base_fault other =
      fault_is false (shared_chunk first second) (are_too_many first second) (is_too_long whole) (is_on_page whole)
      (ne_eqb (first.base % 4) 0 other) refl refl refl refl

  pub shared_fault : (number : ℕ) → shared_chunk first second ≡ Some number → memory_fault first second ≡ Some (Shared number)
  shared_fault number shared =
      ap (λ (s : Option ℕ). unless_shared s (if are_too_many first second then Some TooMany
      else (if is_too_long whole then Some TooLong else (if is_on_page whole then Some OnPage else None)))) shared

  pub many_fault : shared_chunk first second ≡ None → are_too_many first second ≡ true → memory_fault first second ≡ Some TooMany
  many_fault apart many =
      ap (λ (s : Option ℕ). unless_shared s (if are_too_many first second then Some TooMany
      else (if is_too_long whole then Some TooLong else (if is_on_page whole then Some OnPage else None)))) apart
      ∙ ap (λ (b : Bool). if b then Some TooMany
      else (if is_too_long whole then Some TooLong else (if is_on_page whole then Some OnPage else None))) many

  module _ (aligned : first.base % 4 ≡ 0) where
    pub no_rest : (first.base % 4 == 0) ≡ true
    no_rest = eq-eqb (first.base % 4) 0 aligned

    of_memory : chain_fault first second ≡ memory_fault first second
    of_memory = ap (λ (b : Bool). if b then memory_fault first second else Some Base) no_rest

    pub refuses_memory : (e : DoubleBufferError) → Refuses (memory_fault first second) e → Refuses (chain_fault first second) e
    refuses_memory e why = subst (λ (found : Option ChainFault). Refuses found e) (sym of_memory) why
