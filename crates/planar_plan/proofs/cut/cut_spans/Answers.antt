use Rattle.std.proofs.Common.{◌≡◌, ◌+◌, false, List, ◌++◌, drop, get_or, ap, sym, subst}
use Rattle.std.specs.List.{All}
use Rattle.std.proofs.lemmas.List.Elements.{All-nil}
use Rattle.picture_model.specs.declared.Piece.{Piece}
use Rattle.std.proofs.lemmas.List.{drop_more}
use Rattle.clip_spans.specs.declared.Span.{Span}
use Rattle.picture_model.specs.Plans.{cuts_of, pieces_of}
use Rattle.planar_plan.specs.Lines.{AreWithin, CountsFit, strip_of}
use Rattle.planar_plan.proofs.Cuts.{next_span}
use Rattle.planar_plan.proofs.cut.cut_spans.Goals as goal

pub cut_span-requires-clause-order : goal.cut_span-requires-clause-order
cut_span-requires-clause-order c =
    let none : Span = record { from = 0; to = 0; clipped = false } in
    let next = drop_more c.args.spans.now c.loop-span.span-index none c.loop-span-test.true in
    (subst (AreWithin c.args.line.now.grains) next c.loop-span.invariant.grains).0

pub cut_span-requires-clause-within : goal.cut_span-requires-clause-within
cut_span-requires-clause-within c =
    let none : Span = record { from = 0; to = 0; clipped = false } in
    let next = drop_more c.args.spans.now c.loop-span.span-index none c.loop-span-test.true in
    (subst (AreWithin c.args.line.now.grains) next c.loop-span.invariant.grains).1

pub loop-span-preserved : goal.loop-span-preserved
loop-span-preserved c =
    let none : Span = record { from = 0; to = 0; clipped = false } in
    let spans = c.args.spans.now in
    let k = c.loop-span.span-index in
    let next = drop_more spans k none c.loop-span-test.true in
    let grains = subst (AreWithin c.args.line.now.grains) next c.loop-span.invariant.grains in
    let memory = c.args.scatter.now.chunks in
    let strip = strip_of c.args.line.now in
    let all = pieces_of memory strip (cuts_of memory strip spans) in
    record {
      grains = grains.2;
      whole = next_span memory strip (get_or spans k none) (drop (k + 1) spans) c.loop-span.pieces.items c.cut_span.new.pieces.items all
          c.in_ok-cut_span.ensures.pieces
          (subst (λ (left : List Span). c.loop-span.pieces.items ++ pieces_of memory strip (cuts_of memory strip left) ≡ all) next
          c.loop-span.invariant.whole);
      windows = c.in_ok-cut_span.ensures.windows;
      counts = c.in_ok-cut_span.ensures.counts c.loop-span.invariant.counts;
    }

pub loop-span-init : goal.loop-span-init
loop-span-init c =
    let memory = c.args.scatter.now.chunks in
    let strip = strip_of c.args.line.now in
    record {
      grains = c.requires.grains;
      whole = ap (λ (front : List Piece). front ++ pieces_of memory strip (cuts_of memory strip c.args.spans.now)) c.clear.ensures.items;
      windows = c.no_windows-windows.ensures c.args.scatter.now;
      counts = subst (All CountsFit) (sym c.clear.ensures.items) (All-nil CountsFit);
    }
