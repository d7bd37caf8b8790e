use Rattle.std.proofs.Common.{◌≡◌, [], ◌∷◌, false, true, sym, ap, ◌∙◌, subst, arith}
use Rattle.page_table.specs.Scattered.{ScatterList}
use Rattle.clip_spans.specs.Runs.{span}
use Rattle.capture_desc.specs.declared.desc.Desc.{Desc}
use Rattle.picture_model.specs.Described.{describes, highest_end, memory_of, taken}
use Rattle.picture_model.specs.Plans.{Strip, vbi_plan, vbi_strip}
use Rattle.planar_plan.specs.Lines.{CanBeCut, strip_of}
use Rattle.planar_plan.proofs.Held.{list_small, pieces-plan, vbi-CanBeCut, vbi_line_ends}
use Rattle.planar_plan.proofs.frame.Frame.plan_vbi_line.Goals as goal

pub vbi_line-line-requires-clause-fits : goal.vbi_line-line-requires-clause-fits
vbi_line-line-requires-clause-fits c =
    let d = c.self.inside.desc in
    let is : describes d.fields c.args.field ≡ true =
    ap (λ (e : Desc). describes e.fields c.args.field) c.self.view_is ∙ c.requires.described in
    let lines = ap (λ (e : Desc). e.vbi_lines) c.self.view_is in
    let end = vbi_line_ends d c.args.field c.args.line is (omega arith) in
    let small = list_small c.self.inside.scatter c.self.invariant.scattered.list in
    let len : c.self.inside.scatter.len ≡ highest_end (taken d) = ap (λ (s : ScatterList). s.len) c.self.invariant.scattered.scatter in
    omega arith

pub cut_whole-requires : goal.cut_whole-requires
cut_whole-requires c =
    let d = c.self.inside.desc in
    let is : describes d.fields c.args.field ≡ true =
    ap (λ (e : Desc). describes e.fields c.args.field) c.self.view_is ∙ c.requires.described in
    let lines = ap (λ (e : Desc). e.vbi_lines) c.self.view_is in
    let kept = c.self.invariant.scattered in
    subst (λ (l : Strip). CanBeCut c.self.inside.scatter l) (sym c.vbi_line-line.ensures)
    (vbi-CanBeCut d c.self.inside.scatter c.args.field c.args.line is (omega arith) kept.list kept.scatter)

pub returns-clause-plan : goal.returns-clause-plan
returns-clause-plan c =
    let d = c.self.inside.desc in
    let line = c.vbi_line-line.result in
    let memory = ap (λ (s : ScatterList). s.chunks) c.self.invariant.scattered.scatter in
    let spans : (span 0 line.grains false ∷ []) ≡ (vbi_strip d c.args.field c.args.line).spans =
    ap (λ (l : Strip). span 0 l.grains false ∷ []) c.vbi_line-line.ensures
    in
    c.of.ensures
    ∙ pieces-plan (memory_of d) c.self.inside.scatter.chunks (vbi_strip d c.args.field c.args.line) (strip_of line)
    (span 0 line.grains false ∷ []) c.in_ok-pieces.pieces.items
    memory c.vbi_line-line.ensures spans c.in_ok-pieces.ensures.pieces
    ∙ ap (λ (e : Desc). vbi_plan e c.args.field c.args.line) c.self.view_is
