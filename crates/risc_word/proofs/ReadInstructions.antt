-- What is known of an instruction that was read, whatever the words are.
use Rattle.std.proofs.Common.{ℕ, suc, ◌+◌, ◌-◌, ◌/◌, ◌^◌, ◌≡◌, ◌<◌, ◌≤◌, List, [], ◌∷◌, length, drop, length-drop, add-zero, Option, Some}
use Rattle.std.proofs.Common.{None, Ok, refl, sym, subst, ◌∙◌, ap, arith}
use Rattle.std.specs.Prelude.{IsTrue, IfOk, ◌==◌, nat_lt, ◌&&◌, if◌then◌else◌, slice_index}
use Rattle.std.proofs.lemmas.Bool.{and_from, lt-ltb, eqb-true, cond_both}
use Rattle.std.proofs.lemmas.Nat.{mod_below, pow_pos}
use Rattle.std.proofs.lemmas.List.{get_or-drop}
use Rattle.std.proofs.lemmas.Result.{MatchResult-weaker, MatchResult-at_ok}
use Rattle.bit_field.specs.Bits.{bits}
use Rattle.risc_word.specs.declared.Code.{Code}
use Rattle.risc_word.specs.declared.Instr.{Instr}
use Rattle.risc_word.specs.Words.{Reading, by_opcode, code_numbered, control_bits, control_fits, counts_fit, encoded, first_instr, instr_at}
use Rattle.risc_word.specs.Words.{jump_at, lanes_off, opcode_length, skip_123_at, skip_at}
use Rattle.risc_word.specs.Words.{sync_at, sync_for, three_counts, write_123_at, write_1_s_23_at, write_at, write_c_at, IsInstr}

-- what is known of an instruction that was read at a first word, by its opcode and the words after it
pub record Known (opcode : ℕ) (rest : List ℕ) (instr : Instr) (number : ℕ) : Type 0 where
  pub is_instr : IsInstr instr
  pub by_opcode_is : number ≡ opcode_length opcode
  pub spelled_is : number ≡ length (encoded instr)
  pub positive : 1 ≤ number
  pub within : number ≤ length rest + 1

abbrev pub IsKnown : ℕ → List ℕ → Reading → Type 0
IsKnown opcode rest reading = IfOk reading (λ read. Known opcode rest read.0 read.1)

pub bits_small : (low width bound word : ℕ) → bound ≡ 2 ^ width → IsTrue (nat_lt (bits low width word) bound)
bits_small low width bound word is =
    lt-ltb (bits low width word) bound
    (subst (λ n. bits low width word < n) (sym is) (mod_below (word / 2 ^ low) (2 ^ width) (pow_pos width)))

pub control_small : (word : ℕ) → IsTrue (control_fits (control_bits word))
control_small word = and_from _ _ (bits_small 16 4 16 word refl) (bits_small 20 4 16 word refl)

pub line_small : (word : ℕ) → IsTrue (control_fits (control_bits word) && nat_lt (lanes_off word) 16)
line_small word = and_from _ _ (control_small word) (bits_small 12 4 16 word refl)

pub three_small : (word counts : ℕ) → IsTrue (counts_fit (three_counts word counts))
three_small word counts =
    and_from _ _ (bits_small 0 12 4096 word refl)
    (and_from _ _ (bits_small 0 12 4096 counts refl) (and_from _ _ (bits_small 16 12 4096 counts refl) refl))

module _ (word : ℕ) where
  write_known : (rest : List ℕ) → IsKnown 1 rest (write_at word rest)
  write_known [] = tt
  write_known (address ∷ rest) =
      record {
        is_instr = (and_from _ _ (line_small word) (bits_small 0 12 4096 word refl), tt);
        by_opcode_is = refl;
        spelled_is = refl;
        positive = omega arith;
        within = omega arith;
      }

  skip_known : (rest : List ℕ) → IsKnown 2 rest (skip_at word)
  skip_known rest =
      record {
        is_instr = (and_from _ _ (control_small word) (bits_small 0 12 4096 word refl), tt);
        by_opcode_is = refl;
        spelled_is = refl;
        positive = omega arith;
        within = omega arith;
      }

  write_c_known : (rest : List ℕ) → IsKnown 5 rest (write_c_at word)
  write_c_known rest =
      record {
        is_instr = (and_from _ _ (line_small word) (bits_small 0 12 4096 word refl), tt);
        by_opcode_is = refl;
        spelled_is = refl;
        positive = omega arith;
        within = omega arith;
      }

  jump_known : (rest : List ℕ) → IsKnown 7 rest (jump_at word rest)
  jump_known [] = tt
  jump_known (target ∷ rest) =
      record { is_instr = (control_small word, tt); by_opcode_is = refl; spelled_is = refl; positive = omega arith; within = omega arith }

  sync_for_known : (second : ℕ) (rest : List ℕ) (code : Option Code) → IsKnown 8 (second ∷ rest) (sync_for word code)
  sync_for_known second rest (Some code) =
      record { is_instr = (control_small word, tt); by_opcode_is = refl; spelled_is = refl; positive = omega arith; within = omega arith }
  sync_for_known second rest None = tt

  sync_known : (rest : List ℕ) → IsKnown 8 rest (sync_at word rest)
  sync_known [] = tt
  sync_known (second ∷ rest) = sync_for_known second rest (code_numbered (bits 0 4 word))

  write_123_known : (rest : List ℕ) → IsKnown 9 rest (write_123_at word rest)
  write_123_known [] = tt
  write_123_known (counts ∷ []) = tt
  write_123_known (counts ∷ first ∷ []) = tt
  write_123_known (counts ∷ first ∷ second ∷ []) = tt
  write_123_known (counts ∷ first ∷ second ∷ third ∷ rest) = record {
    is_instr = (and_from _ _ (line_small word) (three_small word counts), (refl, refl));
    by_opcode_is = refl;
    spelled_is = refl;
    positive = omega arith;
    within = omega arith;
  }

  skip_123_known : (rest : List ℕ) → IsKnown 10 rest (skip_123_at word rest)
  skip_123_known [] = tt
  skip_123_known (counts ∷ rest) =
      record {
        is_instr = (and_from _ _ (control_small word) (three_small word counts), refl);
        by_opcode_is = refl;
        spelled_is = refl;
        positive = omega arith;
        within = omega arith;
      }

  write_1_s_23_known : (rest : List ℕ) → IsKnown 11 rest (write_1_s_23_at word rest)
  write_1_s_23_known [] = tt
  write_1_s_23_known (counts ∷ []) = tt
  write_1_s_23_known (counts ∷ address ∷ rest) =
      record {
        is_instr = (and_from _ _ (line_small word) (three_small word counts), refl);
        by_opcode_is = refl;
        spelled_is = refl;
        positive = omega arith;
        within = omega arith;
      }

-- a choice by the opcode
chosen : (opcode this : ℕ) (rest : List ℕ) (yes_reading no_reading : Reading) → IsKnown this rest yes_reading →
    IsKnown opcode rest no_reading → IsKnown opcode rest (if opcode == this then yes_reading else no_reading)
chosen opcode this rest yes_reading no_reading known other =
    cond_both (opcode == this) yes_reading no_reading (IsKnown opcode rest)
    (λ same. subst (λ n. IsKnown n rest yes_reading) (sym (eqb-true opcode this same)) known) (λ _. other)

pub known_by_opcode : (opcode word : ℕ) (rest : List ℕ) → IsKnown opcode rest (by_opcode opcode word rest)
known_by_opcode opcode word rest =
    chosen opcode 1 rest _ _ (write_known word rest)
    (chosen opcode 2 rest _ _ (skip_known word rest)
    (chosen opcode 5 rest _ _ (write_c_known word rest)
    (chosen opcode 7 rest _ _ (jump_known word rest)
    (chosen opcode 8 rest _ _ (sync_known word rest)
    (chosen opcode 9 rest _ _ (write_123_known word rest)
    (chosen opcode 10 rest _ _ (skip_123_known word rest)
    (chosen opcode 11 rest _ _ (write_1_s_23_known word rest) tt)))))))

-- the same at a word of a list
pub record KnownAt (words : List ℕ) (at : ℕ) (instr : Instr) (number : ℕ) : Type 0 where
  pub is_instr : IsInstr instr
  pub by_opcode_is : number ≡ opcode_length (bits 28 4 (slice_index words at))
  pub spelled_is : number ≡ length (encoded instr)
  pub positive : 1 ≤ number
  pub within : at + number ≤ length words

abbrev pub IsKnownAt : List ℕ → ℕ → Reading → Type 0
IsKnownAt words at reading = IfOk reading (λ read. KnownAt words at read.0 read.1)

known_first : (words : List ℕ) (at : ℕ) (rest : List ℕ) → drop at words ≡ rest → IsKnownAt words at (first_instr rest)
known_first words at [] is = tt
known_first words at (word ∷ rest) is =
    let shifted : slice_index words (at + 0) ≡ word = sym (get_or-drop at words 0 0) ∙ ap (λ list. slice_index list 0) is
    in let word_is : slice_index words at ≡ word = rw add-zero at shifted
    in let left : length words - at ≡ suc (length rest) = sym (length-drop at words) ∙ ap length is
    in MatchResult-weaker (by_opcode (bits 28 4 word) word rest) (known_by_opcode (bits 28 4 word) word rest)
    (λ read known. record {
      is_instr = known.is_instr;
      by_opcode_is = rw word_is known.by_opcode_is;
      spelled_is = known.spelled_is;
      positive = known.positive;
      within = omega arith;
    })
    (λ _ _. tt)

pub known_of_instr_at : (words : List ℕ) (at : ℕ) → IsKnownAt words at (instr_at words at)
known_of_instr_at words at = known_first words at (drop at words) refl

pub known_at : (words : List ℕ) (at : ℕ) (instr : Instr) (number : ℕ) → instr_at words at ≡ Ok (instr, number) →
    KnownAt words at instr number
known_at words at instr number is =
    MatchResult-at_ok (λ read. KnownAt words at read.0 read.1) (λ _. Unit {0}) (instr, number) is (known_of_instr_at words at)

-- the facts of a reading that is not known to be one
module _ (words : List ℕ) (at : ℕ) (reading : Reading) (is : reading ≡ instr_at words at) where
  known : IsKnownAt words at reading
  known = rw is (known_of_instr_at words at)

  pub if_read_instr : IfOk reading (λ read. IsInstr read.0)
  if_read_instr = MatchResult-weaker reading known (λ read k. k.is_instr) (λ _ _. tt)

  pub if_read_length : IfOk reading (λ read. read.1 ≡ opcode_length (bits 28 4 (slice_index words at)))
  if_read_length = MatchResult-weaker reading known (λ read k. k.by_opcode_is) (λ _ _. tt)

  pub if_read_within : IfOk reading (λ read. (1 ≤ read.1) × (at + read.1 ≤ length words))
  if_read_within = MatchResult-weaker reading known (λ read k. (k.positive, k.within)) (λ _ _. tt)
