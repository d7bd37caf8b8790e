-- What there is where two descriptions have no fault, and what follows for them from a chain that isn't made.
use Rattle.std.proofs.Common.{◌≡◌, ℕ, zero, suc, ◌+◌, ◌*◌, ◌%◌, ◌<◌, ◌≤◌, Bool, true, false, ◌||◌, List, [], ◌++◌, length, Option, Some}
use Rattle.std.proofs.Common.{None, IsTrue, refl, sym, ap, ◌∙◌, subst, arith, if◌then◌else◌, ◌==◌}
use Rattle.std.specs.Prelude.{nat_lt}
use Rattle.std.proofs.lemmas.Bool.{eq-eqb, eqb-true, le-ltb, lt-ltb, or_from, or_right, or_left}
use Rattle.std.proofs.lemmas.List.Elements.{All-from_recursion}
use Rattle.std.proofs.lemmas.List.Folds.{list_any-append, list_any_none}
use Rattle.page_table.specs.Grants.{Chunk, covers, granted}
use Rattle.page_table.specs.Taken.{in_order}
use Rattle.machine_model.specs.Paths.{max_words, shares_byte}
use Rattle.capture_desc.specs.declared.desc.Desc.{Desc}
use Rattle.picture_model.specs.Described.{IsDescription, memory_of}
use Rattle.picture_model.proofs.Places.{any-all_placed}
use Rattle.planar_plan.specs.Frames.{IsFramed}
use Rattle.chain_model.specs.declared.PartWords.{PartWords}
use Rattle.chain_model.specs.Chains.{Chain, IsChain, IsSoundChain, alone, chain_limit, words_of_parts}
use Rattle.chain_law.specs.Fragments.{AreFragments, GrantsAll, IsFragment}
use Rattle.chain_law.proofs.Sound.{fragments_sound}
use Rattle.slot_chain.specs.Making.{is_on_page, is_too_long, word_count}
use Rattle.slot_chain.specs.Making as chain
use Rattle.slot_chain.specs.States.{chain_of}
use Rattle.slot_chain.specs.declared.making.ChainError.{ChainError}
use Rattle.slot_chain.specs.declared.making.ChainError.TheVariants as error
use Rattle.slot_chain.proofs.MadeChain.{is_chain}
use Rattle.slot_chain.proofs.Placing.{word_count_is}
use Rattle.chain_model.specs.declared.ChainFault.TheVariants.{Base, Shared, TooMany, TooLong, OnPage}
use Rattle.slot_chain.specs.declared.faults.DoubleBufferError.{DoubleBufferError}
use Rattle.slot_chain.specs.declared.faults.DoubleBufferError.TheVariants.{Fault, Memory}
use Rattle.slot_chain.specs.Faults.{Refuses, are_too_many, chain_fault, shared_chunk}
use Rattle.slot_chain.specs.Fragments.{IsLong}
use Rattle.slot_chain.specs.Refusals.{IsOfFragments, told}
use Rattle.slot_chain.specs.Pairs.{chain_of_two, fragments_of_two, memory_of_two, part_for, shown_by, slot_count}
use Rattle.slot_chain.specs.Promises.{IsPair, ShowsDescription}
use Rattle.slot_chain.proofs.Reasons.{fault_by, fault_is}
use Rattle.slot_chain.proofs.Standing.{is_fragment}

-- ---- what follows from a chain that isn't made

module _ (first second : Desc) where
  abbrev whole : Chain
  whole = chain_of_two first second

  module _ (aligned : first.base % 4 ≡ 0) where
    right : (first.base % 4 == 0) ≡ true
    right = eq-eqb (first.base % 4) 0 aligned

    module _ (apart : shared_chunk first second ≡ None) (few : are_too_many first second ≡ false) where
      long_fault : is_too_long whole ≡ true → chain_fault first second ≡ Some TooLong
      long_fault long = fault_is first second true None false true (is_on_page whole) right apart few long refl

      pub refuses_long : (e : DoubleBufferError) → IsLong first second e → Refuses (chain_fault first second) e
      refuses_long (Fault Base) why = absurd why
      refuses_long (Fault (Shared number)) why = absurd why
      refuses_long (Fault TooMany) why = absurd why
      refuses_long (Fault TooLong) why = long_fault why
      refuses_long (Fault OnPage) why = absurd why
      refuses_long Memory why = tt

      abbrev place_by : Bool → Bool → Bool → Option ChainError
      place_by right long page =
          if right then (if long then Some error.TooLong else (if page then Some error.OnPage else None)) else Some error.Base

      place_is : (long page : Bool) → is_too_long whole ≡ long → is_on_page whole ≡ page → chain.place_fault whole ≡ place_by true long page
      place_is long page one two =
          ap (λ (b : Bool). place_by b (is_too_long whole) (is_on_page whole)) right
          ∙ ap (λ (b : Bool). place_by true b (is_on_page whole)) one ∙ ap (place_by true long) two

      told_by : (long page : Bool) (e : ChainError) → is_too_long whole ≡ long → is_on_page whole ≡ page → IsOfFragments e →
          chain.Refuses whole e → Refuses (chain_fault first second) (told e)
      told_by long page error.Base one two of why = absurd (no_base long page (sym (place_is long page one two) ∙ why))
        where
          no_base : (long page : Bool) → place_by true long page ≡ Some error.Base → ⊥
          no_base true page e = cc
          no_base false true e = cc
          no_base false false e = cc
      told_by true page error.TooLong one two of why = long_fault one
      told_by false page error.TooLong one two of why = absurd (not_long page (sym (place_is false page one two) ∙ why))
        where
          not_long : (page : Bool) → place_by true false page ≡ Some error.TooLong → ⊥
          not_long true e = cc
          not_long false e = cc
      told_by true page error.OnPage one two of why = absurd (not_page (sym (place_is true page one two) ∙ why))
        where
          not_page : Some error.TooLong ≡ Some error.OnPage → ⊥
          not_page e = cc
      told_by false true error.OnPage one two of why = fault_is first second true None false false true right apart few one two
      told_by false false error.OnPage one two of why = absurd (not_none (sym (place_is false false one two) ∙ why))
        where
          not_none : None ≡ Some error.OnPage → ⊥
          not_none e = cc
      told_by long page (error.Bad part address number cause) one two of why = absurd of
      told_by long page error.Memory one two of why = tt

      pub refuses_told : (e : ChainError) → IsOfFragments e → chain.Refuses whole e → Refuses (chain_fault first second) (told e)
      refuses_told e of why = told_by (is_too_long whole) (is_on_page whole) e refl refl of why

      none_by : (long page : Bool) → is_too_long whole ≡ long → is_on_page whole ≡ page → chain.place_fault whole ≡ None →
          chain_fault first second ≡ None
      none_by true page one two none = absurd (not_none (sym (place_is true page one two) ∙ none))
        where
          not_none : Some error.TooLong ≡ None → ⊥
          not_none e = cc
      none_by false true one two none = absurd (not_none (sym (place_is false true one two) ∙ none))
        where
          not_none : Some error.OnPage ≡ None → ⊥
          not_none e = cc
      none_by false false one two none = fault_is first second true None false false false right apart few one two

      pub no_chain_fault : chain.place_fault whole ≡ None → chain_fault first second ≡ None
      no_chain_fault none = none_by (is_too_long whole) (is_on_page whole) refl refl none

-- ---- a chain that ends beyond the limit

pub too_long_from : (c : Chain) (words : ℕ) → words ≤ 2 * c.slots + 2 + length (words_of_parts c.parts) → chain_limit < c.base + 4 * words →
    is_too_long c ≡ true
too_long_from c words most beyond =
    let count = word_count_is c in
    or_right (nat_lt max_words (word_count c)) (nat_lt chain_limit (c.base + 4 * word_count c))
    (lt-ltb chain_limit (c.base + 4 * word_count c) (omega arith))

-- ---- no fault

record IsClear (aligned : Bool) (shared : Option ℕ) (many long page : Bool) : Type 0 where
  right : aligned ≡ true
  apart : shared ≡ None
  few : many ≡ false
  short : long ≡ false
  beside : page ≡ false

clear_by : (aligned : Bool) (shared : Option ℕ) (many long page : Bool) → fault_by aligned shared many long page ≡ None →
    IsClear aligned shared many long page
clear_by false shared many long page e = absurd cc
clear_by true (Some number) many long page e = absurd cc
clear_by true None true long page e = absurd cc
clear_by true None false true page e = absurd cc
clear_by true None false false true e = absurd cc
clear_by true None false false false e = record { right = refl; apart = refl; few = refl; short = refl; beside = refl }

is_short : (c : Chain) → IsChain c → is_too_long c ≡ false
is_short c is =
    or_from (nat_lt max_words (word_count c)) (nat_lt chain_limit (c.base + 4 * word_count c)) (le-ltb max_words (word_count c) is.few)
    (le-ltb chain_limit (c.base + 4 * word_count c) is.ends)

is_beside : (c : Chain) → IsChain c → is_on_page c ≡ false
is_beside c is = list_any_none (shares_byte (alone c None)) c.grants is.apart

pub no_fault : (first second : Desc) → first.base % 4 ≡ 0 → shared_chunk first second ≡ None → are_too_many first second ≡ false →
    IsChain (chain_of_two first second) → chain_fault first second ≡ None
no_fault first second aligned apart few is =
    fault_is first second true None false false false (eq-eqb (first.base % 4) 0 aligned) apart few
    (is_short (chain_of_two first second) is) (is_beside (chain_of_two first second) is)

-- ---- what is granted

module _ (address : ℕ) where
  abbrev there : Chunk → Bool
  there = λ c. covers c address

  both_granted : (one two : List Chunk) → granted (in_order (one ++ two)) address ≡ (granted one address || granted two address)
  both_granted one two = any-all_placed there [] (one ++ two) ∙ list_any-append there one two

  in_first : (one two : List Chunk) → IsTrue (granted (in_order one) address) → IsTrue (granted (in_order (one ++ two)) address)
  in_first one two is = both_granted one two ∙ or_left (granted one address) (granted two address) (sym (any-all_placed there [] one) ∙ is)

  in_second : (one two : List Chunk) → IsTrue (granted (in_order two) address) → IsTrue (granted (in_order (one ++ two)) address)
  in_second one two is =
      both_granted one two ∙ or_right (granted one address) (granted two address) (sym (any-all_placed there [] two) ∙ is)

-- ---- pairs

module _ (first second : Desc) (pair : IsPair first second) where
  abbrev chain_is : Chain
  chain_is = chain_of_two first second

  clear : IsClear (first.base % 4 == 0) (shared_chunk first second) (are_too_many first second) (is_too_long chain_is) (is_on_page chain_is)
  clear =
      clear_by (first.base % 4 == 0) (shared_chunk first second) (are_too_many first second) (is_too_long chain_is)
      (is_on_page chain_is) pair.no_fault

  well_placed : chain.place_fault chain_is ≡ None
  well_placed = place_is first second (eqb-true (first.base % 4) 0 clear.right) clear.apart clear.few false false clear.short clear.beside

  pub is : IsChain chain_is
  is =
      is_chain chain_is (omega arith, omega arith) (omega arith)
      (All-from_recursion (λ (p : PartWords). p.slot < 2) chain_is.parts (omega arith, (omega arith, (omega arith, (omega arith, tt)))))
      well_placed

  fragment : (slot buffer : ℕ) → slot < 2 → buffer < 2 → IsFragment chain_is (part_for slot buffer) (shown_by first second buffer)
  fragment slot buffer low few =
      is_fragment first second pair.first_description pair.first_frame pair.second_description pair.second_frame slot buffer low few

  grants_first : GrantsAll chain_is first
  grants_first address = in_first address (memory_of first) (memory_of second)

  grants_second : GrantsAll chain_is second
  grants_second address = in_second address (memory_of first) (memory_of second)

  pub are_fragments : AreFragments chain_is
  are_fragments zero lt = (first, fragment 0 0 (omega arith) (omega arith), grants_first)
  are_fragments (suc zero) lt = (second, fragment 0 1 (omega arith) (omega arith), grants_second)
  are_fragments (suc (suc zero)) lt = (first, fragment 1 0 (omega arith) (omega arith), grants_first)
  are_fragments (suc (suc (suc zero))) lt = (second, fragment 1 1 (omega arith) (omega arith), grants_second)
  are_fragments (suc (suc (suc (suc more)))) lt = absurd (omega arith)

  pub is_sound : IsSoundChain chain_is
  is_sound = fragments_sound chain_is is are_fragments

  grants_by : (buffer : ℕ) → buffer < 2 → GrantsAll chain_is (shown_by first second buffer)
  grants_by zero few = grants_first
  grants_by (suc zero) few = grants_second
  grants_by (suc (suc more)) few = absurd (omega arith)

  pub shows : (slot buffer : ℕ) → slot < 2 → buffer < 2 → ShowsDescription chain_is (part_for slot buffer) (shown_by first second buffer)
  shows slot buffer low few =
      record { is_part = omega arith; fragment = fragment slot buffer low few; granted = grants_by buffer few }

-- ---- what the code makes

pub chain_same : (first second : Desc) (base : ℕ) (parts : List PartWords) (grants : List Chunk) → base ≡ first.base →
    parts ≡ fragments_of_two first second →
    grants ≡ in_order (memory_of_two first second) → chain_of base slot_count parts grants ≡ chain_of_two first second
chain_same first second base parts grants one two three =
    ap (λ (b : ℕ). chain_of b slot_count parts grants) one ∙ ap (λ (ps : List PartWords). chain_of first.base slot_count ps grants) two
    ∙ ap (chain_of first.base slot_count (fragments_of_two first second)) three

module _ (first second : Desc) (one : IsFramed first) (two : IsFramed second) (three : IsDescription first) (four : IsDescription second)
    (aligned : first.base % 4 ≡ 0)
    (apart : shared_chunk first second ≡ None) (few : are_too_many first second ≡ false) where
  pair_by : chain_fault first second ≡ None → IsPair first second
  pair_by none =
      record {
        first_description = three;
        first_frame = one.geometry;
        second_description = four;
        second_frame = two.geometry;
        no_fault = none;
      }

  pub pair_of : (c : Chain) → c ≡ chain_of_two first second → IsChain c → IsPair first second
  pair_of c same is = pair_by (no_fault first second aligned apart few (subst IsChain same is))

  -- each part is a fragment, so none is bad
  none_bad : (e : ChainError) → chain.Refuses (chain_of_two first second) e → IsOfFragments e
  none_bad (error.Bad part address number cause) why =
      let pair = pair_by (no_chain_fault first second aligned apart few why.0) in
      not_none (sym (is_sound first second pair part why.1.there number) ∙ why.1.bad.bad)
    where
      not_none : None ≡ Some cause → ⊥
      not_none e = cc
  none_bad error.Base why = tt
  none_bad error.TooLong why = tt
  none_bad error.OnPage why = tt
  none_bad error.Memory why = tt

  pub of_fragments : (c : Chain) (e : ChainError) → c ≡ chain_of_two first second → chain.Refuses c e → IsOfFragments e
  of_fragments c e same why = none_bad e (subst (λ (other : Chain). chain.Refuses other e) same why)

  pub refuses_with : (c : Chain) (e : ChainError) → c ≡ chain_of_two first second → chain.Refuses c e →
      Refuses (chain_fault first second) (told e)
  refuses_with c e same why =
      let of = subst (λ (other : Chain). chain.Refuses other e) same why in
      refuses_told first second aligned apart few e (none_bad e of) of
