use Rattle.std.proofs.Common.{◌∙◌, ℕ, ap, arith}
use Rattle.field_stream.specs.Generator.{number_after}
use Rattle.field_stream.proofs.Turning.{number_after-turn}
use Rattle.field_stream.proofs.generator.Generator.pass.Goals as goal

pub returns : goal.returns
returns c =
    let g = c.self.inside in
    number_after-turn g.first g.at c.args.count c.self.invariant.2 c.self.invariant.1 (omega (arith, c.requires))
    ∙ ap (λ (n : ℕ). number_after n c.args.count) c.self.view_is
