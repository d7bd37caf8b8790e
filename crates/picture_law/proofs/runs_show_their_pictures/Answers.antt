use Rattle.picture_law.proofs.Places.{run_shows_picture, run_shows_no_fault, run_tells_field, run_signals_in_time}
use Rattle.picture_law.proofs.runs_show_their_pictures.Goals as goal

pub returns-clause-shown : goal.returns-clause-shown
returns-clause-shown c = run_shows_picture

pub returns-clause-quiet : goal.returns-clause-quiet
returns-clause-quiet c = run_shows_no_fault

pub returns-clause-signalled : goal.returns-clause-signalled
returns-clause-signalled c = run_tells_field

pub returns-clause-in_time : goal.returns-clause-in_time
returns-clause-in_time c = run_signals_in_time
