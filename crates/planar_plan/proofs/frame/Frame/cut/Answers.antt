use Rattle.std.proofs.Common.{◌≡◌, ℕ, List, sym, ap, ◌∙◌, subst, arith}
use Rattle.std.proofs.lemmas.Result.{IfOk-weaker}
use Rattle.page_table.specs.Scattered.{ScatterList}
use Rattle.clip_spans.specs.declared.Span.{Span}
use Rattle.capture_desc.specs.declared.desc.Desc.{Desc}
use Rattle.picture_model.specs.Described.{IsDescription, layout_of, memory_of}
use Rattle.picture_model.specs.Plans.{Strip, grains_of, row_plan, row_strip}
use Rattle.planar_plan.specs.Lines.{AreWithin, CanBeCut, SpansOfRows, strip_of}
use Rattle.planar_plan.proofs.Held.{is_right, pieces-plan, row-AreWithin, row-CanBeCut}
use Rattle.planar_plan.proofs.frame.Frame.cut.Goals as goal

pub cut_row-requires-clause-line : goal.cut_row-requires-clause-line
cut_row-requires-clause-line c =
    let d = c.self.inside.desc in
    let height = ap (λ (e : Desc). e.height) c.self.view_is in
    let right = is_right d c.self.invariant.scattered.framed (subst IsDescription (sym c.self.view_is) c.requires.description).clips in
    subst (λ (l : Strip). CanBeCut c.self.inside.scatter l) (sym c.row_line-line.ensures)
    (row-CanBeCut d c.self.inside.scatter c.args.row right (omega arith) c.self.invariant.scattered.list c.self.invariant.scattered.scatter)

-- the spans that were passed are those of the row
spans_are : (d e : Desc) (row : ℕ) (slice items : List Span) (kept : SpansOfRows) → d ≡ e → slice ≡ items → kept.spans ≡ items →
    kept.spans ≡ (row_strip e row).spans → slice ≡ (row_strip d row).spans
spans_are d e row slice items kept same is view are =
    is ∙ sym view ∙ are ∙ ap (λ (f : Desc). (row_strip f row).spans) (sym same)

pub cut_row-requires-clause-grains : goal.cut_row-requires-clause-grains
cut_row-requires-clause-grains c =
    let d = c.self.inside.desc in
    let right = is_right d c.self.invariant.scattered.framed (subst IsDescription (sym c.self.view_is) c.requires.description).clips in
    let grains = grains_of (layout_of d) d.width in
    let same : c.row_line-line.result.grains ≡ grains = ap (λ (l : Strip). l.grains) c.row_line-line.ensures in
    let within = row-AreWithin d c.args.row c.row_line-line.result.grains right (omega arith) in
    subst (AreWithin c.row_line-line.result.grains)
    (sym (spans_are d c.args.self.now c.args.row c.deref.result.now c.spans.inside.spans.items c.args.spans.now c.self.view_is
    c.deref.ensures.value (ap (λ (k : SpansOfRows). k.spans) (sym c.spans.view_is)) c.requires.spans))
    within

pub returns-clause-plan : goal.returns-clause-plan
returns-clause-plan c =
    let d = c.self.inside.desc in
    let row = c.args.row in
    let line = c.row_line-line.result in
    let memory = ap (λ (s : ScatterList). s.chunks) c.self.invariant.scattered.scatter in
    let spans =
    spans_are d c.args.self.now row c.deref.result.now c.spans.inside.spans.items c.args.spans.now c.self.view_is c.deref.ensures.value
    (ap (λ (k : SpansOfRows). k.spans) (sym c.spans.view_is)) c.requires.spans in
    IfOk-weaker c.cut_row.result _ _
    (λ _ pieces.
    pieces-plan (memory_of d) c.self.inside.scatter.chunks (row_strip d row)
    (strip_of line) c.deref.result.now c.cut_row.new.self memory c.row_line-line.ensures spans pieces
    ∙ ap (λ (e : Desc). row_plan e row) c.self.view_is)
    c.cut_row.ensures.pieces
