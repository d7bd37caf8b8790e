use Rattle.std.proofs.Common.{◌∙◌, ap}
use Rattle.field_stream.specs.Generator.{number_after}
use Rattle.field_stream.specs.Made.{records}
use Rattle.field_stream.specs.Lines.{line_pushes}
use Rattle.field_stream.specs.Drafts.{Drafted, Patterned}
use Rattle.field_stream.proofs.Redrawing.{drafted_whole}
use Rattle.field_stream.proofs.draft.Draft.again.Goals as goal

pub returns-clause-value : goal.returns-clause-value
returns-clause-value c =
    let pushes = line_pushes c.args.template.now.line in
    let piece =
    c.as_slice.ensures.value
    ∙ ap (λ (p : Patterned). p.bytes) c.draw-drawn.ensures.value
    ∙ ap (λ (d : Drafted). records d.number pushes) c.self.view_is in
    let bytes = ap (λ (d : Drafted). d.bytes) (c.self-2.view_is ∙ c.append.ensures) in
    let number = ap (λ (d : Drafted). number_after d.number c.draw-drawn.result) (c.self-2.view_is ∙ c.append.ensures) in
    drafted_whole pushes c.args.self.now _ c.as_slice.result.now c.draw-drawn.result c.draw-drawn.ensures.whole piece
    c.draw-drawn.ensures.drawn bytes (c.pass.ensures ∙ number)
