use Rattle.std.proofs.Common.{◌≡◌, ◌-◌, ◌≤◌, ◌++◌}
use Rattle.std.specs.List.{All}
use Rattle.picture_model.specs.Plans.{cuts_left, pieces_of, span_cuts}
use Rattle.planar_plan.specs.Lines.{AreWindows, CountsFit, strip_of}
use Rattle.planar_plan.proofs.cut.cut_span.Given as goal

-- the pieces done and those of the cuts left are all pieces
abbrev pub invariant-loop-at : goal.invariant-loop-at
invariant-loop-at l =
    record {
      begun : l.span.from ≤ l.at;
      within : l.at ≤ l.span.to;
      whole : l.pieces.items ++ pieces_of l.scatter.chunks (strip_of l.line) (cuts_left l.scatter.chunks (strip_of l.line) l.span l.at)
          ≡ l.initial.pieces.items ++ pieces_of l.scatter.chunks (strip_of l.line) (span_cuts l.scatter.chunks (strip_of l.line) l.span);
      windows : AreWindows l.scatter l.windows;
      counts : All CountsFit l.initial.pieces.items → All CountsFit l.pieces.items;
    }

abbrev pub decreases-loop-at : goal.decreases-loop-at
decreases-loop-at l = l.span.to - l.at
