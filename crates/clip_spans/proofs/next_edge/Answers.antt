use Rattle.std.proofs.Common.{ap, arith, add-one, drop-cons, drop_of_length-le}
use Rattle.clip_spans.specs.Clipping.{next_edge}
use Rattle.clip_spans.proofs.RowsAlike.{few_edges}
use Rattle.clip_spans.proofs.next_edge.Goals as goal

pub loop-rect-init : goal.loop-rect-init
loop-rect-init c = record { few = omega arith; rest = omega (arith, few_edges c.args.rects.now c.args.row) }

pub loop-rect-preserved : goal.loop-rect-preserved
loop-rect-preserved c =
    let rects = c.args.rects.now in
    let next =
    ap (λ rest. next_edge rest c.args.row)
    (drop-cons rects c.loop-rect.rect-index (record { x = 0; y = 0; w = 0; h = 0 }) c.loop-rect-test.true) in
    record {
      few = omega (arith, c.min-next.ensures, c.loop-rect.invariant.few);
      rest = rw add-one (omega (arith, next, c.edge_after.ensures, c.min-next.ensures, c.loop-rect.invariant.rest));
    }

pub returns : goal.returns
returns c =
    let none = ap (λ rest. next_edge rest c.args.row) (drop_of_length-le c.args.rects.now c.loop-rect-test.false) in
    omega (arith, none, c.loop-rect.invariant.few, c.loop-rect.invariant.rest)
