use Rattle.std.proofs.Common.{◌≡◌, true}
use Rattle.field_law.specs.Sections.{IsUsedUp}
use Rattle.field_law.proofs.CutLines.{lines_used, lines_planned, lines_each, lines_stored}
use Rattle.field_law.proofs.cut_lines_are_used_up.Goals as goal

pub returns-clause-used : goal.returns-clause-used
returns-clause-used c = lines_used IsUsedUp

pub returns-clause-stores : goal.returns-clause-stores
returns-clause-stores c = lines_planned

pub returns-clause-each : goal.returns-clause-each
returns-clause-each c = λ test lines covered each. lines_each (λ store. test store ≡ true) lines covered each

pub returns-clause-stored : goal.returns-clause-stored
returns-clause-stored c = lines_stored
