use Rattle.std.proofs.Common.{◌≡◌, ℕ, ◌<◌, ◌∙◌, List, subst}
use Rattle.clip_spans.specs.Clipping.{clipped_at}
use Rattle.clip_spans.specs.Parts.{is_inside}
use Rattle.clip_spans.specs.Runs.{AreRunsFrom}
use Rattle.clip_spans.specs.declared.Part.{Part}
use Rattle.clip_spans.specs.declared.Rect.{Rect}
use Rattle.clip_spans.proofs.Runs.{only_spans, runs-alternate, runs_along}
use Rattle.clip_spans.proofs.Clips.spans.Goals as goal

pub returns-clause-spans : goal.returns-clause-spans
returns-clause-spans c =
    runs_along (is_inside c.in_ok-parts.parts.items)
    (clipped_at c.args.self.now c.args.row c.args.unit) c.args.width 0 c.in_ok-spans.spans.items
    (subst (λ (rects : List Rect). (y : ℕ) → y < c.args.width → is_inside c.in_ok-parts.parts.items y
    ≡ clipped_at rects c.args.row c.args.unit y) (c.deref.ensures.value ∙ c.self.view_is) c.in_ok-parts.ensures.parts)
    (subst (λ (parts : List Part). AreRunsFrom (is_inside parts) c.args.width 0 c.in_ok-spans.spans.items) c.deref-2.ensures.value
    c.in_ok-spans.ensures)

pub returns-clause-alternate : goal.returns-clause-alternate
returns-clause-alternate c =
    runs-alternate (clipped_at c.args.self.now c.args.row c.args.unit) c.args.width 0 c.in_ok-spans.spans.items (returns-clause-spans c)

pub returns-clause-value : goal.returns-clause-value
returns-clause-value c =
    only_spans c.args.self.now c.args.row c.args.width c.args.unit c.in_ok-spans.spans.items (returns-clause-spans c)
