use Rattle.check_law.proofs.Behind.{nothing_stored_behind, run_shows_both}
use Rattle.check_law.proofs.nothing_is_stored_between_fields.Goals as goal

pub returns-clause-behind : goal.returns-clause-behind
returns-clause-behind c = nothing_stored_behind

pub returns-clause-both : goal.returns-clause-both
returns-clause-both c = run_shows_both
