-- An instruction is read from as many words as its opcode asks for.
use Rattle.std.proofs.Common.{◌≡◌, ℕ, zero, suc, ◌+◌, ◌-◌, ◌<◌, max, Bool, true, false, List, [], ◌∷◌, length, drop, take, refl, sym, ap}
use Rattle.std.proofs.Common.{subst, ◌∙◌, arith, if◌then◌else◌, ◌==◌, slice_index, eqb-true, length-drop, add-zero}
use Rattle.std.proofs.lemmas.List.{get_or-drop}
use Rattle.bit_field.specs.Bits.{bits}
use Rattle.risc_word.specs.Words.{Reading, by_opcode, first_instr, instr_at, jump_at, opcode_length, skip_123_at, sync_at, write_123_at}
use Rattle.risc_word.specs.Words.{write_1_s_23_at, write_at}

module _ (word : ℕ) where
  write_front : (rest : List ℕ) → write_at word rest ≡ write_at word (take 1 rest)
  write_front [] = refl
  write_front (address ∷ rest) = refl

  jump_front : (rest : List ℕ) → jump_at word rest ≡ jump_at word (take 1 rest)
  jump_front [] = refl
  jump_front (target ∷ rest) = refl

  sync_front : (rest : List ℕ) → sync_at word rest ≡ sync_at word (take 1 rest)
  sync_front [] = refl
  sync_front (second ∷ rest) = refl

  write_123_front : (rest : List ℕ) → write_123_at word rest ≡ write_123_at word (take 4 rest)
  write_123_front [] = refl
  write_123_front (counts ∷ []) = refl
  write_123_front (counts ∷ first ∷ []) = refl
  write_123_front (counts ∷ first ∷ second ∷ []) = refl
  write_123_front (counts ∷ first ∷ second ∷ third ∷ rest) = refl

  skip_123_front : (rest : List ℕ) → skip_123_at word rest ≡ skip_123_at word (take 1 rest)
  skip_123_front [] = refl
  skip_123_front (counts ∷ rest) = refl

  write_1_s_23_front : (rest : List ℕ) → write_1_s_23_at word rest ≡ write_1_s_23_at word (take 2 rest)
  write_1_s_23_front [] = refl
  write_1_s_23_front (counts ∷ []) = refl
  write_1_s_23_front (counts ∷ address ∷ rest) = refl

-- a choice by the opcode
chosen : (opcode this : ℕ) (yes_first no_first yes_second no_second : Reading) → (opcode ≡ this → yes_first ≡ yes_second) →
    no_first ≡ no_second →
    (if opcode == this then yes_first else no_first) ≡ (if opcode == this then yes_second else no_second)
chosen opcode this yes_first no_first yes_second no_second same other = by_test (opcode == this) (λ e. same (eqb-true opcode this e))
  where
    by_test : (test : Bool) → (test ≡ true → yes_first ≡ yes_second) →
        (if test then yes_first else no_first) ≡ (if test then yes_second else no_second)
    by_test true same = same refl
    by_test false same = other

-- the words after the first that are read
abbrev after_first : ℕ → List ℕ → List ℕ
after_first opcode rest = take (opcode_length opcode - 1) rest

by_opcode-front : (opcode word : ℕ) (rest : List ℕ) → by_opcode opcode word rest ≡ by_opcode opcode word (after_first opcode rest)
by_opcode-front opcode word rest =
    chosen opcode 1 _ _ _ _ (λ e. subst (λ o. write_at word rest ≡ write_at word (after_first o rest)) (sym e) (write_front word rest))
    (chosen opcode 2 _ _ _ _ (λ e. refl)
    (chosen opcode 5 _ _ _ _ (λ e. refl)
    (chosen opcode 7 _ _ _ _ (λ e. subst (λ o. jump_at word rest ≡ jump_at word (after_first o rest)) (sym e) (jump_front word rest))
    (chosen opcode 8 _ _ _ _ (λ e. subst (λ o. sync_at word rest ≡ sync_at word (after_first o rest)) (sym e) (sync_front word rest))
    (chosen opcode 9 _ _ _ _
    (λ e. subst (λ o. write_123_at word rest ≡ write_123_at word (after_first o rest)) (sym e) (write_123_front word rest))
    (chosen opcode 10 _ _ _ _
    (λ e. subst (λ o. skip_123_at word rest ≡ skip_123_at word (after_first o rest)) (sym e) (skip_123_front word rest))
    (chosen opcode 11 _ _ _ _ (λ e.
    subst (λ o. write_1_s_23_at word rest ≡ write_1_s_23_at word (after_first o rest)) (sym e) (write_1_s_23_front word rest)) refl)))))))

-- how many words are read: one, or as many as the opcode asks for
first_instr-front : (words : List ℕ) →
    first_instr words ≡ first_instr (take (max 1 (opcode_length (bits 28 4 (slice_index words 0)))) words)
first_instr-front [] = refl
first_instr-front (word ∷ rest) =
    let opcode : ℕ = bits 28 4 word in
    let count : max 1 (opcode_length opcode) ≡ suc (opcode_length opcode - 1) = omega arith in
    by_opcode-front opcode word rest ∙ ap (λ n. first_instr (take n (word ∷ rest))) (sym count)

take-same : (count : ℕ) (first second : List ℕ) → length first ≡ length second →
    ((k : ℕ) → k < count → slice_index first k ≡ slice_index second k) →
    take count first ≡ take count second
take-same zero first second long same = refl
take-same (suc count) [] [] long same = refl
take-same (suc count) [] (y ∷ second) long same = absurd (omega arith)
take-same (suc count) (x ∷ first) [] long same = absurd (omega arith)
take-same (suc count) (x ∷ first) (y ∷ second) long same =
    ap (λ z. z ∷ take count first) (same 0 (omega arith))
    ∙ ap (λ rest. y ∷ rest) (take-same count first second (omega arith) (λ k lt. same (suc k) (omega arith)))

-- lists of one length that have the same words where an instruction is read have the same instruction there
pub instr_at-same : (first second : List ℕ) (at : ℕ) → length first ≡ length second →
    ((k : ℕ) → k < max 1 (opcode_length (bits 28 4 (slice_index first at))) → slice_index first (at + k) ≡ slice_index second (at + k)) →
    instr_at first at ≡ instr_at second at
instr_at-same first second at long same =
    let read : ℕ → ℕ = λ word. max 1 (opcode_length (bits 28 4 word)) in
    let here : (words : List ℕ) → slice_index (drop at words) 0 ≡ slice_index words at =
    λ words. get_or-drop at words 0 0 ∙ ap (slice_index words) (add-zero at) in
    let opcode : slice_index first at ≡ slice_index second at =
    sym (here first) ∙ get_or-drop at first 0 0 ∙ same 0 (omega arith) ∙ sym (get_or-drop at second 0 0) ∙ here second in
    let left : length (drop at first) ≡ length (drop at second) = omega (arith, long, length-drop at first, length-drop at second) in
    let front : take (read (slice_index first at)) (drop at first) ≡ take (read (slice_index first at)) (drop at second) =
    take-same _ _ _ left (λ k lt. get_or-drop at first k 0 ∙ same k lt ∙ sym (get_or-drop at second k 0)) in
    first_instr-front (drop at first)
    ∙ ap (λ word. first_instr (take (read word) (drop at first))) (here first)
    ∙ ap first_instr front
    ∙ ap (λ word. first_instr (take (read word) (drop at second))) (opcode ∙ sym (here second))
    ∙ sym (first_instr-front (drop at second))
