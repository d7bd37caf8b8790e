-- The program of a ring is sound: its last instruction leads to the one behind the first.
use Rattle.std.proofs.Common.{◌≡◌, ℕ, ◌+◌, true, List, [], ◌∷◌, ◌++◌, length, refl, ap, ◌∙◌, arith}
use Rattle.std.proofs.lemmas.Bool.{cond-true}
use Rattle.risc_word.specs.declared.Code.TheVariants.{Fm1}
use Rattle.risc_word.specs.declared.Instr.{Instr}
use Rattle.risc_word.specs.Words.{encoded}
use Rattle.page_table.specs.Taken.{in_order}
use Rattle.machine_model.specs.Paths.{IsSound, RiscProgram, is_word}
use Rattle.machine_model.proofs.OneSpan.{word_there}
use Rattle.picture_model.specs.Programs.{words_of}
use Rattle.picture_model.proofs.Circle.{IsAt, IsFineInstr, IsPlain, circle_sound, lead_plain, split_length, words_split}
use Rattle.picture_model.proofs.Each.{Each, each_append, each_only}
use Rattle.picture_model.proofs.FaultlessLines.{IsGoodInstr, good_sync}
use Rattle.ring_model.specs.Rings.{IsRing, Ring, closing, memory_of, opening, ring_instrs, ring_program, ring_words, round}
use Rattle.ring_model.proofs.Blocks.{good_round}

-- the instruction behind the first, whichever it is
second_at : (base : ℕ) (instrs : List Instr) (last : Instr) → IsAt base (opening ∷ instrs ++ last ∷ []) (base + 8)
second_at base [] last =
    record { before = opening ∷ []; instr = last; after = []; split = refl; at = omega arith }
second_at base (i ∷ instrs) last =
    record { before = opening ∷ []; instr = i; after = instrs ++ last ∷ []; split = refl; at = omega arith }

-- how long the program is
pub ring_length : (r : Ring) → length (words_of (ring_instrs r)) ≡ 2 + length (words_of (round r)) + 2
ring_length r =
    let all =
    ap length (words_split (opening ∷ round r) (closing r) []) ∙ split_length (words_of (opening ∷ round r)) (encoded (closing r)) [] in
    omega arith

module _ (r : Ring) (is : IsRing r) (program : RiscProgram) (grants : program.grants ≡ in_order (memory_of r)) where
  -- all but the closing
  pub good_front : Each (IsGoodInstr program) (opening ∷ round r)
  good_front = (good_sync program (memory_of r) grants true Fm1, good_round r is program grants)

module _ (r : Ring) (is : IsRing r) where
  -- the closing leads to a word
  pub closing_word : is_word (ring_program r) (r.base + 8) ≡ true
  closing_word = let long = ring_length r in word_there (ring_program r) (ring_words r) 2 refl (omega arith)

  pub ring_fine : Each (IsFineInstr (ring_program r)) (ring_instrs r)
  ring_fine =
      let program = ring_program r in
      let last : IsFineInstr program (closing r) =
      record { spelled = (refl, tt); some = omega arith; fine = λ target. cond-true (is_word program (program.base + 8)) _ _ closing_word }
      in
      each_append (IsFineInstr program) (opening ∷ round r) (closing r ∷ [])
      (each_only (IsGoodInstr program) (IsFineInstr program) (opening ∷ round r) (λ i g. g.fine) (good_front r is program refl)) (last, tt)

  pub ring_sound : IsSound (ring_program r)
  ring_sound =
      let program = ring_program r in
      let instrs = ring_instrs r in
      let There = IsAt program.base instrs in
      let good = good_front r is program refl in
      circle_sound program instrs refl ring_fine
      (lead_plain There (opening ∷ round r) (closing r) []
      (each_only (IsGoodInstr program) IsPlain (opening ∷ round r) (λ i g. g.plain) good) (second_at program.base (round r) (closing r)) tt)
      (record { before = []; instr = opening; after = round r ++ closing r ∷ []; split = refl; at = omega arith })
