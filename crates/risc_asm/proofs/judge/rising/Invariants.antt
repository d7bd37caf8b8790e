use Rattle.std.proofs.Common.{◌≡◌, ◌+◌, length}
use Rattle.risc_asm.specs.Limits.{rising}
use Rattle.risc_asm.proofs.judge.rising.Given as goal

abbrev pub invariant-loop-left : goal.invariant-loop-left
invariant-loop-left l = record {
  value : rising 0 l.base l.end l.chunks ≡ l.number + rising l.from l.base l.end l.left;
  within : l.number + length l.left ≡ length l.chunks;
}

abbrev pub decreases-loop-left : goal.decreases-loop-left
decreases-loop-left l = length l.left
