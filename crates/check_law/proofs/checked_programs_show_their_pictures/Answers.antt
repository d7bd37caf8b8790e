use Rattle.check_law.proofs.Laws.{shows_picture, shows_no_fault, ends_with_closing, ends_in_time}
use Rattle.check_law.proofs.checked_programs_show_their_pictures.Goals as goal

pub returns-clause-shown : goal.returns-clause-shown
returns-clause-shown c = shows_picture

pub returns-clause-quiet : goal.returns-clause-quiet
returns-clause-quiet c = shows_no_fault

pub returns-clause-ended : goal.returns-clause-ended
returns-clause-ended c = ends_with_closing

pub returns-clause-in_time : goal.returns-clause-in_time
returns-clause-in_time c = ends_in_time
