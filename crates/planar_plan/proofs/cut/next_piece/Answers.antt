use Rattle.std.proofs.Common.{arith}
use Rattle.planar_plan.specs.Lines.{strip_of}
use Rattle.planar_plan.proofs.Reaching.{longest_some}
use Rattle.planar_plan.proofs.cut.next_piece.Goals as goal

pub returns-clause-some : goal.returns-clause-some
returns-clause-some c =
    let some =
    longest_some c.args.scatter.now (strip_of c.args.line.now) c.args.span c.args.at c.requires.line c.requires.before c.requires.within in
    omega arith
