use Rattle.std.proofs.Common.{◌-◌, ◌≤◌, length, map, drop}
use Rattle.picture_model.specs.Programs.{instr_of}
use Rattle.field_compile.proofs.Appending.{IsLeft}
use Rattle.field_compile.proofs.words.push_pieces.Given as goal

-- the instructions of the pieces that are left
abbrev pub invariant-loop-at : goal.invariant-loop-at
invariant-loop-at l =
    record {
      within : l.at ≤ length l.pieces;
      left : IsLeft l.fn.out.items l.out.items (map (instr_of l.planar) (drop l.at l.pieces)) (map (instr_of l.planar) l.pieces);
    }

abbrev pub decreases-loop-at : goal.decreases-loop-at
decreases-loop-at l = length l.pieces - l.at
