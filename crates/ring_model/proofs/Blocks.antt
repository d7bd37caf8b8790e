-- The instructions of a block have no fault, its last WRITE with them.
use Rattle.std.proofs.Common.{◌≡◌, ℕ, ◌+◌, ◌*◌, ◌^◌, ◌<◌, ◌≤◌, List, [], ◌∷◌, arith}
use Rattle.std.specs.List.{range_with_len}
use Rattle.std.proofs.lemmas.Bool.{and_from, and_parts, lt-ltb, ltb-true}
use Rattle.risc_word.specs.declared.Ctl.{Ctl}
use Rattle.risc_word.specs.declared.Ends.{Ends}
use Rattle.risc_word.specs.declared.Instr.{Instr}
use Rattle.risc_word.specs.declared.Instr.TheVariants as instr
use Rattle.risc_word.specs.Words.{flag}
use Rattle.page_table.specs.Taken.{in_order}
use Rattle.machine_model.specs.Paths.{RiscProgram}
use Rattle.picture_model.proofs.Each.{Each, each_flat_map, each_range}
use Rattle.picture_model.proofs.FaultlessLines.{IsGoodInstr, flag_small, good_line}
use Rattle.ring_model.specs.Rings.{IsRing, Ring, block_instrs, last_with, line_instrs, line_strip, lines_instrs, mark, memory_of, round}
use Rattle.ring_model.specs.Rings.{with_control}
use Rattle.ring_model.proofs.Lines.{aligned, block_lines, line-IsStrip}

pub record IsControl (ctl : Ctl) : Type 0 where
  pub set : ctl.set < 16
  pub reset : ctl.reset < 16

pub mark-IsControl : (block : ℕ) → block < 16 → IsControl (mark block)
mark-IsControl block below = record { set = below; reset = omega arith }

word_small : (irq sol eol set reset off count : ℕ) → irq ≤ 2 ^ 24 → sol ≤ 2 ^ 27 → eol ≤ 2 ^ 26 → set < 16 → reset < 16 → off < 16 →
    count < 4096 → 1 * 2 ^ 28 + irq + reset * 2 ^ 20 + set * 2 ^ 16 + sol + eol + off * 2 ^ 12 + count < 2 ^ 32
word_small irq sol eol set reset off count i s e c d o n = omega arith

module _ (program : RiscProgram) where
  good_write : (before ctl : Ctl) (ends : Ends) (off count address : ℕ) → IsControl ctl →
      IsGoodInstr program (instr.Write before ends off count address) → IsGoodInstr program (instr.Write ctl ends off count address)
  good_write before ctl ends off count address is good =
      let front = and_parts _ _ good.fine.spelled.0 in
      let lanes = (and_parts _ _ front.0).1 in
      record {
        fine = record {
          spelled =
              (and_from _ _ (and_from _ _ (and_from _ _ (lt-ltb ctl.set 16 is.set) (lt-ltb ctl.reset 16 is.reset)) lanes) front.1, tt);
          some = good.fine.some;
          fine = good.fine.fine;
        };
        plain = tt;
        words = (
          word_small (flag 24 ctl.irq) (flag 27 ends.sol) (flag 26 ends.eol) ctl.set ctl.reset off count
              (flag_small 24 ctl.irq) (flag_small 27 ends.sol) (flag_small 26 ends.eol) is.set is.reset (ltb-true off 16 lanes)
              (ltb-true count 4096 front.1),
          good.words.1,
        );
      }

  good_with : (ctl : Ctl) (i : Instr) → IsControl ctl → IsGoodInstr program i → IsGoodInstr program (with_control ctl i)
  good_with ctl (instr.Write before ends off count address) is good = good_write before ctl ends off count address is good
  good_with ctl (instr.Skip before ends count) is good = good
  good_with ctl (instr.WriteC before ends off count) is good = good
  good_with ctl (instr.Jump before target) is good = good
  good_with ctl (instr.Sync before resync code) is good = good
  good_with ctl (instr.Write123 before ends off counts addrs) is good = good
  good_with ctl (instr.Skip123 before ends counts) is good = good
  good_with ctl (instr.Write1S23 before ends off counts addr) is good = good

  good_last : (ctl : Ctl) (instrs : List Instr) → IsControl ctl → Each (IsGoodInstr program) instrs →
      Each (IsGoodInstr program) (last_with ctl instrs)
  good_last ctl [] is good = tt
  good_last ctl (i ∷ []) is good = (good_with ctl i is good.0, tt)
  good_last ctl (i ∷ next ∷ rest) is good = (good.0, good_last ctl (next ∷ rest) is good.1)

module _ (r : Ring) (is : IsRing r) (program : RiscProgram) (grants : program.grants ≡ in_order (memory_of r)) where
  good_lines : (first count : ℕ) → first + count ≤ r.blocks * r.lines → Each (IsGoodInstr program) (lines_instrs r first count)
  good_lines first count within =
      each_flat_map (λ n. n < r.blocks * r.lines) (IsGoodInstr program) (line_instrs r) (range_with_len first count)
      (λ n below. good_line program (memory_of r) grants (line_strip r n) (aligned r is) (line-IsStrip r n is below))
      (each_range first count (r.blocks * r.lines) within)

  good_block : (block : ℕ) → block < r.blocks → Each (IsGoodInstr program) (block_instrs r block)
  good_block block below =
      let most = is.blocks.1 in
      good_last program (mark block) (lines_instrs r (block * r.lines) r.lines) (mark-IsControl block (omega arith))
      (good_lines (block * r.lines) r.lines (block_lines block r.lines r.blocks below))

  pub good_round : Each (IsGoodInstr program) (round r)
  good_round =
      each_flat_map (λ block. block < r.blocks) (IsGoodInstr program) (block_instrs r) (range_with_len 0 r.blocks) good_block
      (each_range 0 r.blocks r.blocks (omega arith))
