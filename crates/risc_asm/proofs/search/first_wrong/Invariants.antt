use Rattle.std.proofs.Common.{◌-◌}
use Rattle.risc_asm.specs.Answers.{IsBetween}
use Rattle.risc_asm.proofs.search.first_wrong.Given as goal

abbrev pub invariant-loop-end : goal.invariant-loop-end
invariant-loop-end l = IsBetween l.lines l.low l.high

abbrev pub decreases-loop-end : goal.decreases-loop-end
decreases-loop-end l = l.high - l.low
