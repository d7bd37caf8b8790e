-- Where the fragments of two descriptions are in their chain.
use Rattle.std.proofs.Common.{◌≡◌, ℕ, zero, suc, ◌+◌, ◌*◌, ◌<◌, [], ◌∷◌, length, length-append, refl, ap, arith}
use Rattle.capture_desc.specs.declared.desc.Desc.{Desc}
use Rattle.picture_model.specs.Described.{IsDescription}
use Rattle.picture_model.specs.Geometry.{IsFrame}
use Rattle.picture_model.specs.Programs.{sections_words}
use Rattle.chain_model.specs.declared.PartWords.{PartWords}
use Rattle.chain_model.specs.Chains.{Chain, head, part_of, words_of_parts}
use Rattle.chain_law.specs.Fragments.{IsFragment}
use Rattle.slot_chain.specs.Pairs.{HasBuffers, after_slot, chain_of_two, fragment_of, fragments_of_two, part_for, shown_by, slot_count}

module _ (first second : Desc) where
  abbrev chain : Chain
  chain = chain_of_two first second

  abbrev pub at_0 : ℕ
  at_0 = after_slot first.base slot_count

  abbrev pub part_0 : PartWords
  part_0 = fragment_of first.base at_0 0 first

  abbrev pub at_1 : ℕ
  at_1 = at_0 + 4 * length part_0.words

  abbrev pub part_1 : PartWords
  part_1 = fragment_of first.base at_1 0 second

  abbrev pub at_2 : ℕ
  at_2 = at_1 + 4 * length part_1.words

  abbrev pub part_2 : PartWords
  part_2 = fragment_of first.base at_2 1 first

  abbrev pub at_3 : ℕ
  at_3 = at_2 + 4 * length part_2.words

  abbrev pub part_3 : PartWords
  part_3 = fragment_of first.base at_3 1 second

  -- how many words the parts have
  pub words_of_all : length (words_of_parts (fragments_of_two first second))
      ≡ length part_0.words + (length part_1.words + (length part_2.words + length part_3.words))
  words_of_all =
      let zero_on = length-append part_0.words (words_of_parts (part_1 ∷ part_2 ∷ part_3 ∷ [])) in
      let one_on = length-append part_1.words (words_of_parts (part_2 ∷ part_3 ∷ [])) in
      let two_on = length-append part_2.words (words_of_parts (part_3 ∷ [])) in
      let three_on = length-append part_3.words [] in omega arith

  head_0 : at_0 ≡ head chain 0
  head_0 = omega arith

  head_1 : at_1 ≡ head chain 1
  head_1 = let zero_on = length-append part_0.words [] in omega arith

  head_2 : at_2 ≡ head chain 2
  head_2 =
      let zero_on = length-append part_0.words (words_of_parts (part_1 ∷ [])) in
      let one_on = length-append part_1.words [] in omega arith

  head_3 : at_3 ≡ head chain 3
  head_3 =
      let zero_on = length-append part_0.words (words_of_parts (part_1 ∷ part_2 ∷ [])) in
      let one_on = length-append part_1.words (words_of_parts (part_2 ∷ [])) in
      let two_on = length-append part_2.words [] in omega arith

  words_at : (d : Desc) (slot at begin : ℕ) → at ≡ begin →
      sections_words d at (after_slot first.base slot) ≡ sections_words d begin (after_slot first.base slot)
  words_at d slot at begin e = ap (λ (a : ℕ). sections_words d a (after_slot first.base slot)) e

  pub has_buffers : HasBuffers chain
  has_buffers = record { slots = refl; parts = refl; own = own }
    where
      own : (slot buffer : ℕ) → slot < 2 → buffer < 2 → (part_of chain (part_for slot buffer)).slot ≡ slot
      own zero zero low few = refl
      own zero (suc zero) low few = refl
      own zero (suc (suc more)) low few = absurd (omega arith)
      own (suc zero) zero low few = refl
      own (suc zero) (suc zero) low few = refl
      own (suc zero) (suc (suc more)) low few = absurd (omega arith)
      own (suc (suc more)) buffer low few = absurd (omega arith)

  module _ (one : IsDescription first) (two : IsFrame first) (three : IsDescription second) (four : IsFrame second) where
    pub is_fragment : (slot buffer : ℕ) → slot < 2 → buffer < 2 → IsFragment chain (part_for slot buffer) (shown_by first second buffer)
    is_fragment zero zero low few = record { description = one; frame = two; words = words_at first 0 at_0 (head chain 0) head_0 }
    is_fragment zero (suc zero) low few = record { description = three; frame = four; words = words_at second 0 at_1 (head chain 1) head_1 }
    is_fragment zero (suc (suc more)) low few = absurd (omega arith)
    is_fragment (suc zero) zero low few = record { description = one; frame = two; words = words_at first 1 at_2 (head chain 2) head_2 }
    is_fragment (suc zero) (suc zero) low few =
        record { description = three; frame = four; words = words_at second 1 at_3 (head chain 3) head_3 }
    is_fragment (suc zero) (suc (suc more)) low few = absurd (omega arith)
    is_fragment (suc (suc more)) buffer low few = absurd (omega arith)
