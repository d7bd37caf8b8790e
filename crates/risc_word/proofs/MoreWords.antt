-- What words stand for doesn't change where more words are behind them, but for an instruction that they cut.
use Rattle.std.proofs.Common.{◌≡◌, ℕ, List, [], ◌∷◌, ◌++◌, Bool, true, false, Err, refl, inl, inr}
use Rattle.std.specs.Prelude.{◌==◌, if◌then◌else◌, ◌⊎◌}
use Rattle.bit_field.specs.Bits.{bits}
use Rattle.risc_word.specs.declared.WordFault.TheVariants.{Cut}
use Rattle.risc_word.specs.Words.{Reading, by_opcode, first_instr, jump_at, skip_123_at, sync_at, write_123_at, write_1_s_23_at, write_at}

-- a reading is cut, or another is the same
abbrev pub IsCutOrSame : Reading → Reading → Type 0
IsCutOrSame reading longer = (reading ≡ Err Cut) ⊎ (longer ≡ reading)

module _ (word : ℕ) where
  write_more : (rest more : List ℕ) → IsCutOrSame (write_at word rest) (write_at word (rest ++ more))
  write_more [] more = inl refl
  write_more (_ ∷ rest) more = inr refl

  jump_more : (rest more : List ℕ) → IsCutOrSame (jump_at word rest) (jump_at word (rest ++ more))
  jump_more [] more = inl refl
  jump_more (_ ∷ rest) more = inr refl

  sync_more : (rest more : List ℕ) → IsCutOrSame (sync_at word rest) (sync_at word (rest ++ more))
  sync_more [] more = inl refl
  sync_more (_ ∷ rest) more = inr refl

  skip_123_more : (rest more : List ℕ) → IsCutOrSame (skip_123_at word rest) (skip_123_at word (rest ++ more))
  skip_123_more [] more = inl refl
  skip_123_more (_ ∷ rest) more = inr refl

  write_1_s_23_more : (rest more : List ℕ) → IsCutOrSame (write_1_s_23_at word rest) (write_1_s_23_at word (rest ++ more))
  write_1_s_23_more [] more = inl refl
  write_1_s_23_more (_ ∷ []) more = inl refl
  write_1_s_23_more (_ ∷ _ ∷ rest) more = inr refl

  write_123_more : (rest more : List ℕ) → IsCutOrSame (write_123_at word rest) (write_123_at word (rest ++ more))
  write_123_more [] more = inl refl
  write_123_more (_ ∷ []) more = inl refl
  write_123_more (_ ∷ _ ∷ []) more = inl refl
  write_123_more (_ ∷ _ ∷ _ ∷ []) more = inl refl
  write_123_more (_ ∷ _ ∷ _ ∷ _ ∷ rest) more = inr refl

-- a choice by a test
chosen : (test : Bool) (one longer_one other longer_other : Reading) → IsCutOrSame one longer_one → IsCutOrSame other longer_other →
    IsCutOrSame (if test then one else other) (if test then longer_one else longer_other)
chosen true one longer_one other longer_other this that = this
chosen false one longer_one other longer_other this that = that

more_by_opcode : (opcode word : ℕ) (rest more : List ℕ) → IsCutOrSame (by_opcode opcode word rest) (by_opcode opcode word (rest ++ more))
more_by_opcode opcode word rest more =
    chosen (opcode == 1) _ _ _ _ (write_more word rest more)
    (chosen (opcode == 2) _ _ _ _ (inr refl)
    (chosen (opcode == 5) _ _ _ _ (inr refl)
    (chosen (opcode == 7) _ _ _ _ (jump_more word rest more)
    (chosen (opcode == 8) _ _ _ _ (sync_more word rest more)
    (chosen (opcode == 9) _ _ _ _ (write_123_more word rest more)
    (chosen (opcode == 10) _ _ _ _ (skip_123_more word rest more)
    (chosen (opcode == 11) _ _ _ _ (write_1_s_23_more word rest more) (inr refl))))))))

-- a reading that isn't cut stays what it is with more words behind
pub first_instr-more : (words more : List ℕ) → IsCutOrSame (first_instr words) (first_instr (words ++ more))
first_instr-more [] more = inl refl
first_instr-more (word ∷ rest) more = more_by_opcode (bits 28 4 word) word rest more
