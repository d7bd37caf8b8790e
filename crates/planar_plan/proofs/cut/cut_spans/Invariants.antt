use Rattle.std.proofs.Common.{◌≡◌, ◌++◌, drop}
use Rattle.std.specs.List.{All}
use Rattle.picture_model.specs.Plans.{cuts_of, pieces_of}
use Rattle.planar_plan.specs.Lines.{AreWindows, AreWithin, CountsFit, strip_of}
use Rattle.planar_plan.proofs.cut.cut_spans.Given as goal

-- the pieces done and those of the spans left are all pieces
abbrev pub invariant-loop-span : goal.invariant-loop-span
invariant-loop-span l =
    record {
      grains : AreWithin l.line.grains (drop l.span-index l.spans);
      whole : l.pieces.items ++ pieces_of l.scatter.chunks (strip_of l.line)
          (cuts_of l.scatter.chunks (strip_of l.line) (drop l.span-index l.spans))
          ≡ pieces_of l.scatter.chunks (strip_of l.line) (cuts_of l.scatter.chunks (strip_of l.line) l.spans);
      windows : AreWindows l.scatter l.windows;
      counts : All CountsFit l.pieces.items;
    }
