-- How many words an instruction of three counts has.
use Rattle.std.proofs.Common.{◌≡◌, ℕ, ◌+◌, List, [], ◌∷◌, length, arith}
use Rattle.risc_word.specs.declared.Ctl.{Ctl}
use Rattle.risc_word.specs.declared.Ends.{Ends}
use Rattle.risc_word.specs.Words.{planar_words}

pub planar_length : (opcode : ℕ) (ctl : Ctl) (ends : Ends) (off : ℕ) (counts addresses : List ℕ) → length counts ≡ 3 →
    length (planar_words opcode ctl ends off counts addresses) ≡ length addresses + 2
planar_length opcode ctl ends off [] addresses e = absurd (omega arith)
planar_length opcode ctl ends off (a ∷ []) addresses e = absurd (omega arith)
planar_length opcode ctl ends off (a ∷ b ∷ []) addresses e = absurd (omega arith)
planar_length opcode ctl ends off (a ∷ b ∷ c ∷ []) addresses e = omega arith
planar_length opcode ctl ends off (a ∷ b ∷ c ∷ d ∷ rest) addresses e = absurd (omega arith)
