use Rattle.std.proofs.Common.{◌≡◌, [], ◌∷◌, true, sym, ap, ◌∙◌, subst}
use Rattle.page_table.specs.Scattered.{ScatterList}
use Rattle.clip_spans.specs.Runs.{span}
use Rattle.picture_model.specs.Described.{memory_of}
use Rattle.picture_model.specs.Plans.{Strip, skipped_plan, skipped_strip}
use Rattle.planar_plan.specs.Lines.{CanBeCut, strip_of}
use Rattle.planar_plan.proofs.Held.{pieces-plan, skipped-CanBeCut}
use Rattle.planar_plan.proofs.frame.Frame.plan_skip_line.Goals as goal

pub cut_whole-requires : goal.cut_whole-requires
cut_whole-requires c =
    subst (λ (l : Strip). CanBeCut c.self.inside.scatter l) (sym c.skipped_line-line.ensures)
    (skipped-CanBeCut c.self.inside.desc c.self.inside.scatter c.self.invariant.scattered.list)

pub returns-clause-plan : goal.returns-clause-plan
returns-clause-plan c =
    let d = c.self.inside.desc in
    let line = c.skipped_line-line.result in
    let memory = ap (λ (s : ScatterList). s.chunks) c.self.invariant.scattered.scatter in
    let spans : (span 0 line.grains true ∷ []) ≡ (skipped_strip d).spans =
    ap (λ (l : Strip). span 0 l.grains true ∷ []) c.skipped_line-line.ensures
    in
    c.of.ensures
    ∙ pieces-plan (memory_of d) c.self.inside.scatter.chunks (skipped_strip d) (strip_of line)
    (span 0 line.grains true ∷ []) c.in_ok-pieces.pieces.items memory c.skipped_line-line.ensures spans c.in_ok-pieces.ensures.pieces
    ∙ ap skipped_plan c.self.view_is
