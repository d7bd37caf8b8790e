use Rattle.std.proofs.Common.{◌-◌, ◌≤◌}
use Rattle.ring_compile.proofs.Appending.{IsLeft}
use Rattle.ring_model.specs.Rings.{last_with, line_instrs}
use Rattle.ring_compile.proofs.Pieces.{writes_from}
use Rattle.ring_compile.proofs.words.push_line.Given as goal

-- with the WRITEs that are left the whole line is there
abbrev pub invariant-loop-at : goal.invariant-loop-at
invariant-loop-at l =
    record {
      within : l.at ≤ l.values.line_bytes;
      left : IsLeft l.fn.out.items l.out.items (last_with l.last (writes_from l.values l.number l.at))
          (last_with l.last (line_instrs l.values l.number));
    }

abbrev pub decreases-loop-at : goal.decreases-loop-at
decreases-loop-at l = l.values.line_bytes - l.at
