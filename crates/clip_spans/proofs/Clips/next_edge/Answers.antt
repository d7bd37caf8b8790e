use Rattle.std.proofs.Common.{◌≡◌, ◌∙◌, sym, ap, subst, ◌<◌}
use Rattle.clip_spans.specs.Clipping.{next_edge}
use Rattle.clip_spans.proofs.RowsAlike.{alike_spans, later_edge}
use Rattle.clip_spans.proofs.Clips.next_edge.Goals as goal

pub returns-clause-later : goal.returns-clause-later
returns-clause-later c =
    subst (λ to. c.args.row < to) (sym c.next_edge.ensures) (later_edge c.deref.result.now c.args.row c.ranges.row.fits)

pub returns-clause-spans : goal.returns-clause-spans
returns-clause-spans c = λ other width unit up below.
    let edge : next_edge c.args.self.now c.args.row ≡ c.next_edge.result =
    ap (λ rects. next_edge rects c.args.row) (sym (c.deref.ensures.value ∙ c.self.view_is)) ∙ sym c.next_edge.ensures
    in
    sym (alike_spans c.args.self.now c.args.row other width unit up (subst (λ to. other < to) (sym edge) below))
