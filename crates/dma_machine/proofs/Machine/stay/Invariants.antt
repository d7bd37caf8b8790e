use Rattle.std.proofs.Common.{◌≡◌}
use Rattle.dma_machine.proofs.Machine.stay.Given as goal

abbrev pub invariant-loop-turn : goal.invariant-loop-turn
invariant-loop-turn g l = l.self ≡ l.fn.self
