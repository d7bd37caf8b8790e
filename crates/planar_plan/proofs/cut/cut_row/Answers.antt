use Rattle.std.proofs.Common.{◌∙◌}
use Rattle.std.proofs.lemmas.Result.{IfOk-weaker}
use Rattle.planar_plan.specs.Lines.{strip_of}
use Rattle.planar_plan.proofs.Stretching.{whole-pieces}
use Rattle.planar_plan.proofs.cut.cut_row.Goals as goal

pub returns-in-Some-clause-pieces : goal.returns-in-Some-clause-pieces
returns-in-Some-clause-pieces c =
    IfOk-weaker c.cut.result _ _
    (λ _ pieces. pieces ∙ whole-pieces c.args.scatter.now.chunks
    (strip_of c.args.line.now) c.in-Some.row c.args.spans.now c.in-Some.ensures.whole c.requires.grains)
    c.cut.ensures.pieces
