use Rattle.std.proofs.Common.{◌≡◌, ◌+◌, ◌-◌, ◌*◌}
use Rattle.ring_model.specs.Rings.{block_instrs, last_with, lines_instrs, mark}
use Rattle.ring_compile.proofs.Appending.{IsLeft}
use Rattle.ring_compile.proofs.words.push_block.Given as goal

-- with the lines that are left the whole block is there
abbrev pub invariant-loop-n : goal.invariant-loop-n
invariant-loop-n l =
    record {
      first : l.first ≡ l.block * l.values.lines;
      left : IsLeft l.fn.out.items l.out.items
          (last_with (mark l.block) (lines_instrs l.values (l.block * l.values.lines + l.n) (l.values.lines - l.n)))
          (block_instrs l.values l.block);
    }
