use Rattle.std.proofs.Common.{◌≡◌, length}
use Rattle.bt878_cases.proofs.memory.exchange_all.Given as goal

abbrev pub invariant-loop-k : goal.invariant-loop-k
invariant-loop-k g l = length (g.R.Ram.memory l.ram) ≡ l.count
