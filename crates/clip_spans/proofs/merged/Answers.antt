use Rattle.std.proofs.Common.{◌≡◌, ◌+◌, ◌++◌, ◌∙◌, true, false, drop, get_or, subst, ap, arith, refl, [], ◌∷◌}
use Rattle.std.specs.Prelude.{max}
use Rattle.clip_spans.specs.Parts.{is_inside, unless_empty}
use Rattle.clip_spans.proofs.Merging.{IsMerged, merged_along, merged_gap, merged_joined, merged_last, next_part, none_left}
use Rattle.clip_spans.proofs.merged.Goals as goal
use Rattle.clip_spans.proofs.merged.Goals.{then-done-part+in_ok-add+in_ok-add-2, else-done-part}

pub loop-part-preserved : goal.loop-part-preserved
loop-part-preserved c =
    let test = is_inside c.args.parts.now in
    let k = c.loop-part.part-index in
    let part = get_or c.args.parts.now k (record { from = 0; to = 0 }) in
    let left = drop (k + 1) c.args.parts.now in
    let out = c.loop-part.spans.items in
    let now : IsMerged test c.args.width c.loop-part.start c.loop-part.done out (part ∷ left) =
    subst (IsMerged test c.args.width c.loop-part.start c.loop-part.done out)
    (next_part c.args.parts.now k (record { from = 0; to = 0 }) c.loop-part-test.true) c.loop-part.invariant
    in
    elim c.if-done-part.branch [
      | then-done-part+in_ok-add+in_ok-add-2 w ↦
          let some = now.order.1.some in
          let gap = w.if-done-part.true in
          let added : c.if-done-part.spans.items
          ≡ ((out ++ unless_empty c.loop-part.start c.loop-part.done true) ++ unless_empty c.loop-part.done part.from false) =
          rw w.spans-is (w.in_ok-add-2.ensures ∙ ap (λ before. before ++ unless_empty c.loop-part.done part.from false) w.in_ok-add.ensures)
          in
          merged_along test c.args.width part.from part.to c.if-done-part.start c.max-done.result _ c.if-done-part.spans.items left
          w.start-is (omega arith) added
          (merged_gap test c.args.width c.loop-part.start c.loop-part.done out part left now gap)
      | else-done-part w ↦
          let same : c.if-done-part.spans.items ≡ out = rw w.spans-is refl in
          merged_along test c.args.width c.loop-part.start (max c.loop-part.done part.to) c.if-done-part.start c.max-done.result out
          c.if-done-part.spans.items left w.start-is c.max-done.ensures same
          (merged_joined test c.args.width c.loop-part.start c.loop-part.done out part left now w.if-done-part.false)
    ]

pub returns : goal.returns
returns c =
    let test = is_inside c.args.parts.now in
    let out = c.loop-part.spans.items in
    let now : IsMerged test c.args.width c.loop-part.start c.loop-part.done out [] =
    subst (IsMerged test c.args.width c.loop-part.start c.loop-part.done out)
    (none_left c.args.parts.now c.loop-part.part-index c.loop-part-test.false) c.loop-part.invariant
    in
    rw (c.in_ok-add-4.ensures, c.in_ok-add-3.ensures) (merged_last test c.args.width c.loop-part.start c.loop-part.done out now)
