use Rattle.check_law.proofs.Verdicts.{said_is_checked}
use Rattle.check_law.proofs.shown_fields_are_found.Goals as goal

pub returns : goal.returns
returns c = said_is_checked
