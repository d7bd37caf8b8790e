use Rattle.std.proofs.Common.{◌-◌}
use Rattle.dma_machine.proofs.Turns.{AreLeft}
use Rattle.dma_machine.proofs.Machine.act_all.Given as goal

abbrev pub invariant-loop-turn : goal.invariant-loop-turn
invariant-loop-turn g l = AreLeft l.fn.self l.count (l.count - l.turn) l.self
