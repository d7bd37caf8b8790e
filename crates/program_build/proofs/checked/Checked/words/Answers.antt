use Rattle.std.proofs.Common.{length, ap, arith}
use Rattle.program_build.proofs.Checking.{checked_few}
use Rattle.program_build.proofs.checked.Checked.words.Goals as goal

pub overflow_cast-result : goal.overflow_cast-result
overflow_cast-result c =
    let few = checked_few c.self.inside.frame c.self.invariant.checked in
    let size = ap length c.self.invariant.words in
    let len = c.len.ensures in omega arith
