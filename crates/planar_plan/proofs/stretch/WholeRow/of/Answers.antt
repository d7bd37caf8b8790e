use Rattle.planar_plan.proofs.Stretching.{stretches-IsWhole}
use Rattle.planar_plan.proofs.stretch.WholeRow.of.Goals as goal

pub returns-clause-whole : goal.returns-clause-whole
returns-clause-whole c =
    stretches-IsWhole c.args.scatter.now.chunks c.args.line.now c.in_ok-stretches.stretches c.in_ok-stretches.ensures.stretches
