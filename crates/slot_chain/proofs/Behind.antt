-- The fragments that the code puts one behind the other are those of the chain of two descriptions.
use Rattle.std.proofs.Common.{◌≡◌, ℕ, ◌+◌, ◌*◌, ◌≤◌, [], ◌∷◌, length, ap, ◌∙◌, arith}
use Rattle.capture_desc.specs.declared.desc.Desc.{Desc}
use Rattle.chain_model.specs.declared.PartWords.{PartWords}
use Rattle.chain_model.specs.Chains.{words_of_parts}
use Rattle.chain_model.specs.declared.ChainFault.TheVariants.{Base, Shared, TooMany, TooLong, OnPage}
use Rattle.slot_chain.specs.declared.faults.DoubleBufferError.{DoubleBufferError}
use Rattle.slot_chain.specs.declared.faults.DoubleBufferError.TheVariants.{Fault, Memory}
use Rattle.slot_chain.specs.Fragments.{IsBeyond, IsLong}
use Rattle.slot_chain.specs.Pairs.{chain_of_two, fragment_of, fragments_of_two}
use Rattle.slot_chain.proofs.Pairs.{too_long_from}
use Rattle.slot_chain.proofs.Standing.{at_0, at_1, at_2, at_3, part_0, part_1, part_2, words_of_all}

module _ (first second : Desc) where
  -- an address with so many words of parts before it is beyond the limit
  long_from : (at words : ℕ) (e : DoubleBufferError) → words ≤ length (words_of_parts (fragments_of_two first second)) →
      at ≡ first.base + 24 + 4 * words → IsBeyond at e → IsLong first second e
  long_from at words (Fault Base) most is beyond = absurd beyond
  long_from at words (Fault (Shared number)) most is beyond = absurd beyond
  long_from at words (Fault TooMany) most is beyond = absurd beyond
  long_from at words (Fault TooLong) most is beyond = too_long_from (chain_of_two first second) (6 + words) (omega arith) (omega arith)
  long_from at words (Fault OnPage) most is beyond = absurd beyond
  long_from at words Memory most is beyond = tt

  module _ (base a0 : ℕ) (base_is : base ≡ first.base) (a0_is : a0 ≡ base + 24) where
    same_part : (a b slot : ℕ) (d : Desc) → a ≡ b → fragment_of base a slot d ≡ fragment_of first.base b slot d
    same_part a b slot d e = ap (λ (n : ℕ). fragment_of n a slot d) base_is ∙ ap (λ (n : ℕ). fragment_of first.base n slot d) e

    here_0 : a0 ≡ at_0 first second
    here_0 = omega arith

    pub long_0 : (e : DoubleBufferError) → IsBeyond a0 e → IsLong first second e
    long_0 e beyond = long_from a0 0 e (omega arith) (omega arith) beyond

    module _ (p0 : PartWords) (p0_is : p0 ≡ fragment_of base a0 0 first) (a1 : ℕ) (a1_is : a1 ≡ a0 + 4 * length p0.words) where
      same_0 : p0 ≡ part_0 first second
      same_0 = p0_is ∙ same_part a0 (at_0 first second) 0 first here_0

      here_1 : a1 ≡ at_1 first second
      here_1 = let size = ap (λ (p : PartWords). length p.words) same_0 in let before = here_0 in omega arith

      pub long_1 : (e : DoubleBufferError) → IsBeyond a1 e → IsLong first second e
      long_1 e beyond =
          let all = words_of_all first second in
          let here = here_1 in long_from a1 (length (part_0 first second).words) e (omega arith) (omega arith) beyond

      module _ (p1 : PartWords) (p1_is : p1 ≡ fragment_of base a1 0 second) (a2 : ℕ) (a2_is : a2 ≡ a1 + 4 * length p1.words) where
        same_1 : p1 ≡ part_1 first second
        same_1 = p1_is ∙ same_part a1 (at_1 first second) 0 second here_1

        here_2 : a2 ≡ at_2 first second
        here_2 = let size = ap (λ (p : PartWords). length p.words) same_1 in let before = here_1 in omega arith

        pub long_2 : (e : DoubleBufferError) → IsBeyond a2 e → IsLong first second e
        long_2 e beyond =
            let all = words_of_all first second in
            let here = here_2 in
            long_from a2 (length (part_0 first second).words + length (part_1 first second).words) e (omega arith) (omega arith) beyond

        module _ (p2 : PartWords) (p2_is : p2 ≡ fragment_of base a2 1 first) (a3 : ℕ) (a3_is : a3 ≡ a2 + 4 * length p2.words) where
          same_2 : p2 ≡ part_2 first second
          same_2 = p2_is ∙ same_part a2 (at_2 first second) 1 first here_2

          here_3 : a3 ≡ at_3 first second
          here_3 = let size = ap (λ (p : PartWords). length p.words) same_2 in let before = here_2 in omega arith

          pub long_3 : (e : DoubleBufferError) → IsBeyond a3 e → IsLong first second e
          long_3 e beyond =
              let all = words_of_all first second in
              let here = here_3 in
              long_from a3 (length (part_0 first second).words + length (part_1 first second).words + length (part_2 first second).words) e
              (omega arith) (omega arith) beyond

          pub all_parts : (p3 : PartWords) → p3 ≡ fragment_of base a3 1 second → p0 ∷ p1 ∷ p2 ∷ p3 ∷ [] ≡ fragments_of_two first second
          all_parts p3 p3_is =
              ap (λ (p : PartWords). p ∷ p1 ∷ p2 ∷ p3 ∷ []) same_0 ∙ ap (λ (p : PartWords). part_0 first second ∷ p ∷ p2 ∷ p3 ∷ []) same_1
              ∙ ap (λ (p : PartWords). part_0 first second ∷ part_1 first second ∷ p ∷ p3 ∷ []) same_2
              ∙ ap (λ (p : PartWords). part_0 first second ∷ part_1 first second ∷ part_2 first second ∷ p ∷ [])
              (p3_is ∙ same_part a3 (at_3 first second) 1 second here_3)
