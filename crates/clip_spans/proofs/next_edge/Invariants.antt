use Rattle.std.proofs.Common.{◌≡◌, ◌^◌, ◌≤◌, drop, min}
use Rattle.clip_spans.specs.Clipping.{next_edge}
use Rattle.clip_spans.proofs.next_edge.Given as goal

abbrev pub invariant-loop-rect : goal.invariant-loop-rect
invariant-loop-rect l =
    record {
      few : l.next ≤ 2 ^ 32;
      rest : min l.next (next_edge (drop l.rect-index l.rects) l.row) ≡ next_edge l.rects l.row;
    }
