-- What a turn does has nothing to do with the count of turns.
use Rattle.std.proofs.Common.{◌≡◌, ℕ, sym, ap, ◌∙◌}
use Rattle.fifo_model.specs.Queues.{more}
use Rattle.machine_model.specs.States.{State}
use Rattle.machine_model.specs.Turns.{turn}
use Rattle.machine_model.proofs.SameTurn.{turn_if-turns}
use Rattle.dma_machine.specs.Counts.{acted, with_turns}

pub acted-turns : (t : ℕ) (m : State) → acted (with_turns t m) ≡ with_turns t (acted m)
acted-turns t m = turn_if-turns m t

-- a turn counts one, and what it does is done whatever the count
pub turn-acted : (m : State) → turn m ≡ with_turns (more m.turns 1) (acted m)
turn-acted m = acted-turns (more m.turns 1) m

-- so it may be counted after it is taken
pub acted-counted : (m : State) → with_turns (more (acted m).turns 1) (acted m) ≡ turn m
acted-counted m =
    let same : (acted m).turns ≡ m.turns = ap (λ after. after.turns) (acted-turns m.turns m) in
    ap (λ turns. with_turns (more turns 1) (acted m)) same ∙ sym (turn-acted m)
