use Rattle.std.proofs.Common.{◌≡◌, ◌+◌, false, List, [], ◌∷◌, ◌++◌, append_assoc, map, drop, get_or, ap, ◌∙◌, sym, subst, arith}
use Rattle.std.proofs.lemmas.List.{drop_more}
use Rattle.clip_spans.specs.declared.Span.{Span}
use Rattle.pixel_layout.specs.Layouts.{layout}
use Rattle.picture_model.specs.Plans.{in_grains}
use Rattle.planar_plan.specs.Lines.{AreWithin}
use Rattle.planar_plan.proofs.cut.spans_in_grains.Goals as goal

pub in_grains-requires : goal.in_grains-requires
in_grains-requires c =
    let none : Span = record { from = 0; to = 0; clipped = false } in
    let next = drop_more c.args.spans.now c.loop-span.span-index none c.loop-span-test.true in
    let within = subst (AreWithin 1024) next c.loop-span.invariant.pixels in
    record { from = omega (arith, within.0, within.1); to = within.1 }

pub loop-span-preserved : goal.loop-span-preserved
loop-span-preserved c =
    let none : Span = record { from = 0; to = 0; clipped = false } in
    let spans = c.args.spans.now in
    let k = c.loop-span.span-index in
    let grain = in_grains (layout c.args.format) in
    let next = drop_more spans k none c.loop-span-test.true in
    let done = c.loop-span.grains.items in
    let left = map grain (drop (k + 1) spans) in
    let here = grain (get_or spans k none) in
    let added : c.push.new.self.items ≡ done ++ here ∷ [] =
    c.in_ok-push.ensures.items ∙ ap (λ (s : Span). done ++ s ∷ []) c.in_grains.ensures in
    record {
      pixels = (subst (AreWithin 1024) next c.loop-span.invariant.pixels).2;
      whole =
          ap (λ (front : List Span). front ++ left) added
          ∙ append_assoc done (here ∷ []) left
          ∙ ap (λ (rest : List Span). done ++ map grain rest) (sym next)
          ∙ c.loop-span.invariant.whole;
    }
