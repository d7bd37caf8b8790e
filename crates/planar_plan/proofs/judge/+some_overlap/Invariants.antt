use Rattle.std.proofs.Common.{length}
use Rattle.planar_plan.proofs.judge.+some_overlap.Given as goal

abbrev pub decreases-some_overlap : goal.decreases-some_overlap
decreases-some_overlap l = length l.taken.now
