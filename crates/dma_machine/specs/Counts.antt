-- The count of turns, apart from what a turn does.
use Rattle.std.specs.Prelude.{ℕ, zero, suc}
use Rattle.machine_model.specs.States.{State}
use Rattle.machine_model.specs.Turns.{turn_if}

abbrev pub with_turns : ℕ → State → State
with_turns turns m = record m { turns = turns }

-- a turn that is counted already
abbrev pub acted : State → State
acted m = turn_if m.risc_on m

-- so many of them
abbrev pub acted_times : ℕ → State → State
acted_times zero m = m
acted_times (suc count) m = acted_times count (acted m)
