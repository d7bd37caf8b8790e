use Rattle.machine_model.proofs.SameTurn.{turn-with_interrupts, fdsr-turn}
use Rattle.machine_model.proofs.laws.interrupts_change_no_turn.Goals as goal

pub returns-clause-same : goal.returns-clause-same
returns-clause-same c = turn-with_interrupts

pub returns-clause-fdsr : goal.returns-clause-fdsr
returns-clause-fdsr c = fdsr-turn
