use Rattle.damage_law.proofs.StandingRows.{nothing_taken_is_nothing_asked, whole_rows_took_asked}
use Rattle.damage_law.proofs.laws.whole_rows_took_what_is_asked.Goals as goal

pub returns-clause-asked : goal.returns-clause-asked
returns-clause-asked c = whole_rows_took_asked

pub returns-clause-nothing : goal.returns-clause-nothing
returns-clause-nothing c = nothing_taken_is_nothing_asked
