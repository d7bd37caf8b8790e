-- The programs of the first parts.
use Rattle.std.proofs.Common.{◌≡◌, ℕ, zero, suc, ◌+◌, ◌*◌, ◌<◌, ◌≤◌, ◌⊎◌, inl, inr, List, [], ◌∷◌, ◌++◌, length, take, length-append, Some}
use Rattle.std.proofs.Common.{None, refl, sym, ap, subst, ◌∙◌, arith}
use Rattle.std.specs.Prelude.{slice_index_or, slice_set}
use Rattle.std.specs.List.{All}
use Rattle.std.proofs.Math.Nat.{mul-le-mul_right}
use Rattle.std.proofs.lemmas.Bool.{cases_eq, cases_lt}
use Rattle.std.proofs.lemmas.List.{get_or_append_left, get_or_default, get_or_push}
use Rattle.machine_model.specs.Paths.{IsFirstBad, IsSound, RiscProgram, one_span}
use Rattle.chain_model.specs.declared.PartWords.{PartWords}
use Rattle.chain_model.specs.Chains.{Chain, Patching, alone, chain_limit, head, loop_words, part_of, patched_words, target, unpatched}
use Rattle.chain_model.specs.Chains.{words_of_parts}
use Rattle.chain_model.proofs.Slots.{length-alone}
use Rattle.risc_verify.specs.Verdicts.{Refuses}
use Rattle.risc_verify.specs.declared.walk.Why.{Why}
use Rattle.risc_verify.specs.declared.walk.Why.TheVariants.{Bad, Memory}
use Rattle.slot_chain.specs.Making.{AreSound, RefusesPart, refusal}
use Rattle.slot_chain.proofs.Loops.{words_at_most, words_more}
use Rattle.slot_chain.proofs.Placing.{word_count_is}

-- ---- the words with a part patched in

retarget_from : (chain : Chain) (first : ℕ) (patching : Patching) (others : List ℕ) (slot n number part : ℕ) → slot < length patching →
    n ≡ 2 * slot + 1 → first + slot ≡ number →
    loop_words chain first (slice_set patching slot (Some part)) ++ others
    ≡ slice_set (loop_words chain first patching ++ others) n (target chain number (Some part))
retarget_from chain first [] others slot n number part lt e at = absurd (omega arith)
retarget_from chain first (p ∷ rest) others zero n number part lt e at =
    let one : n ≡ suc zero = omega arith in
    ap (λ (k : ℕ). slice_set (loop_words chain first (p ∷ rest) ++ others) k (head chain part)) (sym one)
retarget_from chain first (p ∷ rest) others (suc slot) n number part lt e at =
    let two : n ≡ suc (suc (2 * slot + 1)) = omega arith in
    ap (λ (later : List ℕ). 0x70000000 ∷ target chain first p ∷ later)
    (retarget_from chain (suc first) rest others slot (2 * slot + 1) number part (omega arith) refl (omega arith))
    ∙ ap (λ (k : ℕ). slice_set (loop_words chain first (p ∷ rest) ++ others) k (head chain part)) (sym two)

pub retarget : (chain : Chain) (part : ℕ) → (part_of chain part).slot < chain.slots →
    alone chain (Some part) ≡ one_span chain.base
    (slice_set (patched_words chain (unpatched chain)) (2 * (part_of chain part).slot + 1) (head chain part)) chain.grants
retarget chain part below =
    let long = length-alone chain None in
    ap (λ (words : List ℕ). one_span chain.base words chain.grants)
    (retarget_from chain 0 (unpatched chain) (words_of_parts chain.parts) (part_of chain part).slot (2 * (part_of chain part).slot + 1)
    (part_of chain part).slot part (omega arith) refl (omega arith))

-- ---- part by part

-- one time more
times_next : (index each : ℕ) → (index + 1) * each ≡ index * each + each
times_next index each = grind arith

spent_next : (count index before after now : ℕ) → after ≤ before + index * (2 * count + 1) → now ≤ after + (2 * count + 1) →
    now ≤ before + (index + 1) * (2 * count + 1)
spent_next count index before after now one two = let more = times_next index (2 * count + 1) in omega arith

pub record AreFirst (chain : Chain) (count index : ℕ) (programs : List RiscProgram) (at before after : ℕ) : Type 0 where
  pub many : length programs ≡ index
  pub here : at ≡ head chain index
  pub each : (part : ℕ) → part < index → slice_index_or programs part (alone chain None) ≡ alone chain (Some part)
  pub sound : AreSound chain index
  pub cost : (before ≤ after) × (after ≤ before + index * (2 * count + 1))

strictly : (part index : ℕ) → (part ≡ index → ⊥) → part < index + 1 → part < index
strictly part index ne lt = grind (arith, cases_lt part index, cases_eq part index)

each_by : (chain : Chain) (index : ℕ) (programs : List RiscProgram) (found : RiscProgram) (part : ℕ) → length programs ≡ index →
    found ≡ alone chain (Some index) →
    ((part : ℕ) → part < index → slice_index_or programs part (alone chain None) ≡ alone chain (Some part)) →
    (part ≡ index) ⊎ (part ≡ index → ⊥) → part < index + 1 →
    slice_index_or (programs ++ found ∷ []) part (alone chain None) ≡ alone chain (Some part)
each_by chain index programs found part many is each (inl e) lt =
    get_or_push programs found (alone chain None) part (many ∙ sym e) ∙ is ∙ ap (λ (p : ℕ). alone chain (Some p)) (sym e)
each_by chain index programs found part many is each (inr ne) lt =
    let below = strictly part index ne lt in
    get_or_append_left programs (found ∷ []) (alone chain None) part (omega arith) ∙ each part below

sound_by : (chain : Chain) (index part : ℕ) → AreSound chain index → IsSound (alone chain (Some index)) →
    (part ≡ index) ⊎ (part ≡ index → ⊥) → part < index + 1 → IsSound (alone chain (Some part))
sound_by chain index part before one (inl e) lt = subst (λ (p : ℕ). IsSound (alone chain (Some p))) (sym e) one
sound_by chain index part before one (inr ne) lt = before part (strictly part index ne lt)

head_more : (chain : Chain) (index : ℕ) (part : PartWords) → index < length chain.parts → slice_index_or chain.parts index part ≡ part →
    head chain (index + 1) ≡ head chain index + 4 * length part.words
head_more chain index part lt is =
    let size = ap length (words_more chain.parts index part lt is) ∙ length-append (words_of_parts (take index chain.parts)) part.words in
    omega arith

-- the part that is met is the one of its number
part_is : (chain : Chain) (index : ℕ) (part : PartWords) → index < length chain.parts → slice_index_or chain.parts index part ≡ part →
    part_of chain index ≡ part
part_is chain index part lt is = get_or_default chain.parts index (record { slot = 0; words = [] }) part lt ∙ is

module _ (chain : Chain) (count index : ℕ) (programs : List RiscProgram) (at before after : ℕ)
    (first : AreFirst chain count index programs at before after) (part : PartWords)
    (lt : index < length chain.parts) (is : slice_index_or chain.parts index part ≡ part) (below : part.slot < chain.slots) (words : List ℕ)
    (words_are : words ≡ patched_words chain (unpatched chain)) where
  -- its program is that of the words with its slot led to it
  pub its_program : (one_span chain.base (slice_set words (2 * part.slot + 1) at) chain.grants) ≡ alone chain (Some index)
  its_program =
      let mine = part_is chain index part lt is in
      ap (λ (ws : List ℕ). one_span chain.base (slice_set ws (2 * part.slot + 1) at) chain.grants) words_are
      ∙ ap
      (λ (h : ℕ). one_span chain.base (slice_set (patched_words chain (unpatched chain)) (2 * part.slot + 1) h) chain.grants) first.here
      ∙ ap (λ (p : PartWords).
      one_span chain.base (slice_set (patched_words chain (unpatched chain)) (2 * p.slot + 1) (head chain index)) chain.grants) (sym mine)
      ∙ sym (retarget chain index (subst (λ (p : PartWords). p.slot < chain.slots) (sym mine) below))

  pub one_more : (found : RiscProgram) (kept : List RiscProgram) (later now : ℕ) →
      found ≡ one_span chain.base (slice_set words (2 * part.slot + 1) at) chain.grants → IsSound found → kept ≡ programs ++ found ∷ [] →
      later ≡ at + 4 * length part.words → (after ≤ now) × (now ≤ after + (2 * count + 1)) →
      AreFirst chain count (index + 1) kept later before now
  one_more found kept later now made sound put on cost =
      let mine = made ∙ its_program in
      let size = ap length put ∙ length-append programs (found ∷ []) in
      let many = first.many in
      let here = first.here in
      let more = head_more chain index part lt is in
      let spent = first.cost in
      record {
        many = omega arith;
        here = omega arith;
        each =
            λ p within. subst (λ (ps : List RiscProgram). slice_index_or ps p (alone chain None) ≡ alone chain (Some p)) (sym put)
            (each_by chain index programs found p first.many mine first.each (cases_eq p index) within);
        sound = λ p within. sound_by chain index p first.sound (subst IsSound mine sound) (cases_eq p index) within;
        cost = (omega arith, spent_next count index before after now spent.1 cost.1);
      }

-- ---- what the loop needs

pub first_none : (chain : Chain) (count at steps : ℕ) (programs : List RiscProgram) → programs ≡ [] →
    at ≡ chain.base + 8 * (chain.slots + 1) → AreFirst chain count 0 programs at steps steps
first_none chain count at steps programs none here =
    record {
      many = ap length none;
      here = omega arith;
      each = λ part lt. absurd (omega arith);
      sound = λ part lt. absurd (omega arith);
      cost = (omega arith, omega arith);
    }

pub slot_below : (chain : Chain) (index : ℕ) (part : PartWords) → All (λ p. p.slot < chain.slots) chain.parts → index < length chain.parts →
    slice_index_or chain.parts index part ≡ part → part.slot < chain.slots
slot_below chain index part belong lt is = subst (λ (p : PartWords). p.slot < chain.slots) is (belong index part lt)

-- a slot has its word
pub slot_within : (chain : Chain) (words : List ℕ) (slot : ℕ) → words ≡ patched_words chain (unpatched chain) → slot < chain.slots →
    2 * slot + 1 < length words
slot_within chain words slot are lt =
    let size = ap length are in
    let count = word_count_is chain in omega arith

-- the address after a part is below the limit
pub head_room : (chain : Chain) (words : List ℕ) (index : ℕ) (part : PartWords) → words ≡ patched_words chain (unpatched chain) →
    chain.base + 4 * length words ≤ chain_limit →
    index < length chain.parts → slice_index_or chain.parts index part ≡ part → head chain index + 4 * length part.words ≤ chain_limit
head_room chain words index part are low lt is =
    let size = ap length are in
    let count = word_count_is chain in
    let more = head_more chain index part lt is in
    let most = words_at_most chain.parts (index + 1) in omega arith

pub refused_by : (chain : Chain) (index : ℕ) (program : RiscProgram) (why : Why) → program ≡ alone chain (Some index) →
    index < length chain.parts → AreSound chain index → Refuses program why →
    RefusesPart chain (refusal index why)
refused_by chain index program (Bad address number cause) is lt before bad =
    record { there = lt; before = before; bad = subst (λ (p : RiscProgram). IsFirstBad p address number cause) is bad }
refused_by chain index program Memory is lt before bad = tt

-- the steps of the parts up to one, of all
pub spent_to : (count index parts before after now : ℕ) → (before ≤ after) × (after ≤ before + index * (2 * count + 1)) →
    (after ≤ now) × (now ≤ after + (2 * count + 1)) → index < parts →
    (before ≤ now) × (now ≤ before + parts * (2 * count + 1))
spent_to count index parts before after now first one lt =
    let more = spent_next count index before after now first.1 one.1 in
    let all = mul-le-mul_right {m = index + 1} {n = parts} (2 * count + 1) (omega arith) in
    let low = first.0 in
    let step = one.0 in (omega arith, omega arith)
