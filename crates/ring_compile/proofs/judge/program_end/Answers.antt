use Rattle.std.proofs.Common.{◌∙◌, ap, length, arith}
use Rattle.ring_model.specs.Rings.{Ring}
use Rattle.ring_compile.proofs.Judging.{end_is}
use Rattle.ring_compile.proofs.judge.program_end.Goals as goal

pub returns : goal.returns
returns c =
    let base = c.from.ensures ∙ ap (λ (r : Ring). r.base) c.values.view_is in
    let end = end_is c.args.values.now (length c.args.words.now) (ap length c.requires) in
    omega arith
