use Rattle.turn_trace.proofs.Lines.{told_by-EndsWithNumbers}
use Rattle.turn_trace.proofs.Tracings.{after_all-run}
use Rattle.turn_trace.proofs.laws.lines_show_the_machine_after_their_steps.Goals as goal

pub returns-clause-machine : goal.returns-clause-machine
returns-clause-machine c = after_all-run

pub returns-clause-numbers : goal.returns-clause-numbers
returns-clause-numbers c = told_by-EndsWithNumbers
