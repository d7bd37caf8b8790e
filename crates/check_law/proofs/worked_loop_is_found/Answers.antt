use Rattle.check_law.proofs.WorkedLoop.{top_checked, bottom_checked}
use Rattle.check_law.proofs.worked_loop_is_found.Goals as goal

pub returns-clause-top : goal.returns-clause-top
returns-clause-top c = top_checked

pub returns-clause-bottom : goal.returns-clause-bottom
returns-clause-bottom c = bottom_checked
