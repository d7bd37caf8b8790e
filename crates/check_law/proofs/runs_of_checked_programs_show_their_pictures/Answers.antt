use Rattle.check_law.proofs.Places.{run_shows_picture, run_shows_no_fault, run_ends_with_closing, run_ends_in_time}
use Rattle.check_law.proofs.runs_of_checked_programs_show_their_pictures.Goals as goal

pub returns-clause-shown : goal.returns-clause-shown
returns-clause-shown c = run_shows_picture

pub returns-clause-quiet : goal.returns-clause-quiet
returns-clause-quiet c = run_shows_no_fault

pub returns-clause-ended : goal.returns-clause-ended
returns-clause-ended c = run_ends_with_closing

pub returns-clause-in_time : goal.returns-clause-in_time
returns-clause-in_time c = run_ends_in_time
