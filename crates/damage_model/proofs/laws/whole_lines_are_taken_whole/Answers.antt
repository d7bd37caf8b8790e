use Rattle.damage_model.proofs.WholeLines.{line-whole, whole-line}
use Rattle.damage_model.proofs.laws.whole_lines_are_taken_whole.Goals as goal

pub returns-clause-line : goal.returns-clause-line
returns-clause-line c = line-whole

pub returns-clause-takings : goal.returns-clause-takings
returns-clause-takings c = whole-line
