use Rattle.ring_law.proofs.Places.{run_shows_blocks, run_shows_no_fault}
use Rattle.ring_law.proofs.runs_show_their_blocks.Goals as goal

pub returns-clause-shown : goal.returns-clause-shown
returns-clause-shown c = run_shows_blocks

pub returns-clause-quiet : goal.returns-clause-quiet
returns-clause-quiet c = run_shows_no_fault
