-- The place of a chain, checked.
use Rattle.std.proofs.Common.{◌≡◌, ◌||◌, [], ◌∷◌, ℕ, ◌+◌, ◌*◌, ◌%◌, ◌<◌, ◌≤◌, Bool, true, false, List, length, Option, Some, None, Ok, Err}
use Rattle.std.proofs.Common.{refl, sym, ap, ◌∙◌, subst, arith, if◌then◌else◌, ◌==◌, nat_lt, nat_le}
use Rattle.std.specs.List.{list_any}
use Rattle.std.proofs.lemmas.Bool.{eq-eqb, eqb-true, leb-false, leb-true, le-ltb, lt-ltb, ltb-false, or_from, or_parts, or_right, or_left}
use Rattle.page_table.specs.Grants.{AreGrants, Chunk, is_met}
use Rattle.page_table.specs.Taken.{Answers, listed, taken_chunks}
use Rattle.page_table.specs.declared.PageFault.{PageFault}
use Rattle.page_table.specs.declared.PageFault.TheVariants.{Memory}
use Rattle.capture_file.proofs.Chunks.{listed_length, not_taken, taken_is}
use Rattle.machine_model.specs.Paths.{max_words, one_span, shares_byte}
use Rattle.machine_model.proofs.OneSpan.{shares_byte-one_span}
use Rattle.chain_model.specs.Chains.{Chain, chain_limit, patched_words, unpatched, words_of_parts}
use Rattle.chain_model.proofs.Slots.{length-alone}
use Rattle.chain_model.proofs.Words.{length-patched}
use Rattle.slot_chain.specs.declared.making.ChainError.{ChainError}
use Rattle.slot_chain.specs.declared.making.ChainError.TheVariants.{Base, TooLong, OnPage}
use Rattle.slot_chain.specs.Making.{IsPlaced, is_on_page, is_too_long, place_fault, word_count}

pub word_count_is : (chain : Chain) → word_count chain ≡ 2 * chain.slots + 2 + length (words_of_parts chain.parts)
word_count_is chain = length-patched chain (unpatched chain) (length-alone chain None)

any_same : (p q : Chunk → Bool) (cs : List Chunk) → ((c : Chunk) → p c ≡ q c) → list_any p cs ≡ list_any q cs
any_same p q [] same = refl
any_same p q (c ∷ cs) same = ap (λ (b : Bool). b || list_any p cs) (same c) ∙ ap (λ (b : Bool). q c || b) (any_same p q cs same)

-- a program of one span shares a byte with a chunk where its bytes do
pub met_words : (base : ℕ) (words : List ℕ) (grants : List Chunk) →
    list_any (shares_byte (one_span base words grants)) grants ≡ list_any (is_met base (base + 4 * length words)) grants
met_words base words grants =
    any_same (shares_byte (one_span base words grants)) (is_met base (base + 4 * length words)) grants
    (shares_byte-one_span base words grants)

pub met_chain : (chain : Chain) → is_on_page chain ≡ list_any (is_met chain.base (chain.base + 4 * word_count chain)) chain.grants
met_chain chain = met_words chain.base (patched_words chain (unpatched chain)) chain.grants

abbrev fault_by : Bool → Bool → Bool → Option ChainError
fault_by aligned long page = if aligned then (if long then Some TooLong else (if page then Some OnPage else None)) else Some Base

-- the fault, by what was tested before
fault_is : (chain : Chain) (aligned long page : Bool) → (chain.base % 4 == 0) ≡ aligned → is_too_long chain ≡ long →
    is_on_page chain ≡ page → place_fault chain ≡ fault_by aligned long page
fault_is chain aligned long page one two three =
    ap (λ (b : Bool). fault_by b (is_too_long chain) (is_on_page chain)) one
    ∙ ap (λ (b : Bool). fault_by aligned b (is_on_page chain)) two ∙ ap (fault_by aligned long) three

module _ (chain : Chain) (aligned : chain.base % 4 ≡ 0) where
  no_rest : chain.base % 4 == 0 ≡ true
  no_rest = eq-eqb (chain.base % 4) 0 aligned

  long_fault : is_too_long chain ≡ true → Some TooLong ≡ place_fault chain
  long_fault long = sym (fault_is chain true true (is_on_page chain) no_rest long refl)

  counted : Option ℕ → Type 0
  counted result =
      result ≡ (if nat_le (2 * chain.slots + 2 + length (words_of_parts chain.parts)) max_words
      then Some (2 * chain.slots + 2 + length (words_of_parts chain.parts)) else None)

  many_by : (n : ℕ) (b : Bool) → nat_le n max_words ≡ b → None ≡ (if b then Some n else None) → max_words < n
  many_by n true e none = cc
  many_by n false e none = leb-false n max_words e

  few_by : (n count : ℕ) (b : Bool) → nat_le n max_words ≡ b → Some count ≡ (if b then Some n else None) → (count ≡ n) × (n ≤ max_words)
  few_by n count true e some = (some_same count n some, leb-true n max_words e)
    where
      some_same : (one other : ℕ) → Some one ≡ Some other → one ≡ other
      some_same one other e = cc
  few_by n count false e some = cc

  pub too_many : (result : Option ℕ) → result ≡ (if nat_le (2 * chain.slots + 2 + length (words_of_parts chain.parts)) max_words
      then Some (2 * chain.slots + 2 + length (words_of_parts chain.parts)) else None) →
      result ≡ None → Some TooLong ≡ place_fault chain
  too_many result is none =
      let count = word_count_is chain in
      let n : ℕ = 2 * chain.slots + 2 + length (words_of_parts chain.parts) in
      let many = many_by n (nat_le n max_words) refl (sym none ∙ is) in
      long_fault (or_left (nat_lt max_words (word_count chain)) (nat_lt chain_limit (chain.base + 4 * word_count chain))
      (lt-ltb max_words (word_count chain) (omega arith)))

  module _ (result : Option ℕ) (count : ℕ) (is : result ≡ (if nat_le (2 * chain.slots + 2 + length (words_of_parts chain.parts)) max_words
      then Some (2 * chain.slots + 2 + length (words_of_parts chain.parts)) else None))
      (some : result ≡ Some count) where
    found : (count ≡ 2 * chain.slots + 2 + length (words_of_parts chain.parts))
        × (2 * chain.slots + 2 + length (words_of_parts chain.parts) ≤ max_words)
    found =
        few_by (2 * chain.slots + 2 + length (words_of_parts chain.parts)) count
        (nat_le (2 * chain.slots + 2 + length (words_of_parts chain.parts)) max_words) refl (sym some ∙ is)

    pub count_is : count ≡ word_count chain
    count_is = found.0 ∙ sym (word_count_is chain)

    pub beyond : chain_limit < chain.base + 4 * count → Some TooLong ≡ place_fault chain
    beyond high =
        let same = count_is in
        long_fault (or_right (nat_lt max_words (word_count chain)) (nat_lt chain_limit (chain.base + 4 * word_count chain))
        (lt-ltb chain_limit (chain.base + 4 * word_count chain) (omega arith)))

    not_long : chain.base + 4 * count ≤ chain_limit → is_too_long chain ≡ false
    not_long low =
        let same = count_is in
        let few = found.1 in
        let is_count = word_count_is chain in
        or_from (nat_lt max_words (word_count chain)) (nat_lt chain_limit (chain.base + 4 * word_count chain))
        (le-ltb max_words (word_count chain) (omega arith))
        (le-ltb chain_limit (chain.base + 4 * word_count chain) (omega arith))

    on_page_is : is_on_page chain ≡ list_any (is_met chain.base (chain.base + 4 * count)) chain.grants
    on_page_is = met_chain chain ∙ ap (λ (n : ℕ). list_any (is_met chain.base (chain.base + 4 * n)) chain.grants) (sym count_is)

    pub on_page : chain.base + 4 * count ≤ chain_limit → list_any (is_met chain.base (chain.base + 4 * count)) chain.grants ≡ true →
        Some OnPage ≡ place_fault chain
    on_page low met = sym (fault_is chain true false true no_rest (not_long low) (on_page_is ∙ met))

    pub well_placed : chain.base + 4 * count ≤ chain_limit → list_any (is_met chain.base (chain.base + 4 * count)) chain.grants ≡ false →
        None ≡ place_fault chain
    well_placed low met = sym (fault_is chain true false false no_rest (not_long low) (on_page_is ∙ met))

-- ---- what follows from no fault

module _ (chain : Chain) (none : place_fault chain ≡ None) where
  parts_by : (aligned long page : Bool) → fault_by aligned long page ≡ None → (aligned ≡ true) × (long ≡ false) × (page ≡ false)
  parts_by true true page e = cc
  parts_by true false true e = cc
  parts_by true false false e = (refl, refl, refl)
  parts_by false long page e = cc

  pub placed : IsPlaced chain.base (word_count chain) chain.grants
  placed =
      let parts = parts_by (chain.base % 4 == 0) (is_too_long chain) (is_on_page chain) none in
      let both = or_parts (nat_lt max_words (word_count chain)) (nat_lt chain_limit (chain.base + 4 * word_count chain)) parts.1 in
      record {
        aligned = eqb-true (chain.base % 4) 0 parts.0;
        few = ltb-false max_words (word_count chain) both.0;
        ends = ltb-false chain_limit (chain.base + 4 * word_count chain) both.1;
        apart = sym (met_chain chain) ∙ parts.2;
      }

-- ---- a copy of grants

pub copied : (list : List (ℕ × ℕ)) (grants found : List Chunk) → AreGrants grants → listed list ≡ grants →
    Answers (taken_chunks list) (Ok found) → found ≡ grants
copied list grants found are is answer =
    let all = subst AreGrants (sym is) are in
    let long = listed_length list in
    taken_is list found all.rising (rw (← long) at all.few) all.small answer ∙ is

pub not_copied : (list : List (ℕ × ℕ)) (grants : List Chunk) (fault : PageFault) → AreGrants grants → listed list ≡ grants →
    Answers (taken_chunks list) (Err fault) → (fault ≡ Memory → ⊥) → ⊥
not_copied list grants fault are is answer other =
    let all = subst AreGrants (sym is) are in
    let long = listed_length list in
    not_taken list fault all.rising (rw (← long) at all.few) all.small answer other
