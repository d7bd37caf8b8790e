-- A chain as it is made.
use Rattle.std.proofs.Common.{◌≡◌, ℕ, ◌<◌, ◌≤◌, All, List, length, Option, None, sym, ap, subst, ◌∙◌}
use Rattle.std.specs.Prelude.{replicate, slice_index_or}
use Rattle.page_table.proofs.Listed.{none_passes}
use Rattle.page_table.specs.Grants.{Chunk}
use Rattle.machine_model.specs.Paths.{IsFirstBad, RiscProgram, one_span, shares_byte}
use Rattle.machine_model.specs.declared.Cause.{Cause}
use Rattle.chain_model.specs.declared.PartWords.{PartWords}
use Rattle.chain_model.specs.Chains.{Chain, IsChain, IsPatching, IsSoundChain, alone, max_parts, max_slots, patched_words, unpatched}
use Rattle.chain_model.proofs.Live.{IsPatching-unpatched}
use Rattle.chain_model.proofs.Slots.{empty_sound}
use Rattle.slot_chain.specs.Making.{AreAlone, place_fault}
use Rattle.slot_chain.specs.States.{chain_of}
use Rattle.slot_chain.specs.Wheels.{IsWheel}
use Rattle.slot_chain.proofs.Placing.{met_chain, placed}

module _ (chain : Chain) (slots : (1 ≤ chain.slots) × (chain.slots ≤ max_slots)) (parts : length chain.parts ≤ max_parts)
    (belong : All (λ part. part.slot < chain.slots) chain.parts)
    (none : place_fault chain ≡ None) where
  pub is_chain : IsChain chain
  is_chain =
      let place = placed chain none in
      record {
        slots = slots;
        parts = parts;
        belong = belong;
        aligned = place.aligned;
        few = place.few;
        ends = place.ends;
        apart = none_passes (shares_byte (alone chain None)) chain.grants (met_chain chain ∙ place.apart);
      }

  pub first_wheel : (running : RiscProgram) (programs : List RiscProgram) → AreAlone chain programs → running ≡ alone chain None →
      IsWheel chain running programs None
  first_wheel running programs are is =
      record {
        is = is_chain;
        sound = are.sound;
        part = tt;
        runs = is;
        count = are.count;
        kept = λ part lt. ap (slice_index_or programs part) is ∙ are.each part lt;
      }

-- without parts a chain's program is never refused
never_bad : (chain : Chain) (at nth : ℕ) (cause : Cause) → IsFirstBad (alone chain None) at nth cause → ⊥
never_bad chain at nth cause bad = let fine = empty_sound chain nth in let other = bad.bad in absurd (cc)

pub never_refused : (chain : Chain) (words : List ℕ) (at nth : ℕ) (cause : Cause) → words ≡ patched_words chain (unpatched chain) →
    IsFirstBad (one_span chain.base words chain.grants) at nth cause → ⊥
never_refused chain words at nth cause same bad =
    never_bad chain at nth cause (subst (λ (ws : List ℕ). IsFirstBad (one_span chain.base ws chain.grants) at nth cause) same bad)

-- from what the code has of its parts
module _ (base slots : ℕ) (parts judged : List PartWords) (grants : List Chunk) (running : RiscProgram) (programs : List RiscProgram)
    (patching : List (Option ℕ)) (same : judged ≡ parts)
    (some : (1 ≤ slots) × (slots ≤ max_slots)) (few : length parts ≤ max_parts) (belong : All (λ part. part.slot < slots) parts)
    (none : place_fault (chain_of base slots judged grants) ≡ None) (are : AreAlone (chain_of base slots judged grants) programs)
    (runs : running ≡ alone (chain_of base slots judged grants) None) (list : patching ≡ replicate slots None) where
  abbrev whole : Chain
  whole = chain_of base slots parts grants

  no_fault : place_fault whole ≡ None
  no_fault = subst (λ (ps : List PartWords). place_fault (chain_of base slots ps grants) ≡ None) same none

  runs_empty : running ≡ alone whole None
  runs_empty = runs ∙ ap (λ (ps : List PartWords). alone (chain_of base slots ps grants) None) same

  alone_whole : AreAlone whole programs
  alone_whole = subst (λ (ps : List PartWords). AreAlone (chain_of base slots ps grants) programs) same are

  grants_are : running.grants ≡ grants
  grants_are = ap (λ (p : RiscProgram). p.grants) runs_empty

  pub made_wheel : IsWheel (chain_of base slots parts running.grants) running programs None
  made_wheel =
      subst (λ (g : List Chunk). IsWheel (chain_of base slots parts g) running programs None) (sym grants_are)
      (first_wheel whole some few belong no_fault running programs alone_whole runs_empty)

  pub made_patching : IsPatching (chain_of base slots parts running.grants) patching
  made_patching =
      subst (λ (ps : List (Option ℕ)). IsPatching (chain_of base slots parts running.grants) ps) (sym list)
      (IsPatching-unpatched (chain_of base slots parts running.grants))

  pub made_chain : IsChain (chain_of base slots parts running.grants)
  made_chain =
      subst (λ (g : List Chunk). IsChain (chain_of base slots parts g)) (sym grants_are) (is_chain whole some few belong no_fault)

  pub made_sound : IsSoundChain (chain_of base slots parts running.grants)
  made_sound =
      subst (λ (g : List Chunk). IsSoundChain (chain_of base slots parts g)) (sym grants_are) alone_whole.sound
