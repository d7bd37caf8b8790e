use Rattle.std.proofs.Common.{◌≡◌, take}
use Rattle.std.specs.List.{All, flat_map}
use Rattle.planar_plan.specs.Lines.{CountsFit}
use Rattle.planar_plan.specs.Stretches.{pieces_in}
use Rattle.planar_plan.proofs.stretch.WholeRow.cut.Given as goal

-- the pieces of the spans done
abbrev pub invariant-loop-span : goal.invariant-loop-span
invariant-loop-span l =
    record {
      pieces : l.pieces.items ≡ flat_map (pieces_in l.self) (take l.span-index l.spans);
      counts : All CountsFit l.pieces.items;
    }
