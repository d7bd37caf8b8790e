use Rattle.std.proofs.Common.{◌≡◌}
use Rattle.slot_chain.specs.States.{turned}
use Rattle.slot_chain.proofs.chain.Chain.turns_apart.Given as goal

abbrev pub invariant-loop-turn : goal.invariant-loop-turn
invariant-loop-turn g l = l.self ≡ turned l.turn l.fn.self
