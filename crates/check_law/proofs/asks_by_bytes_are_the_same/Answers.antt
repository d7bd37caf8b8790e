use Rattle.field_law.specs.Sections.{IsUsedUp}
use Rattle.check_law.proofs.ByBytes.{same_uses, same_planned}
use Rattle.check_law.proofs.asks_by_bytes_are_the_same.Goals as goal

pub returns-clause-used : goal.returns-clause-used
returns-clause-used c asks other line tokens same h = same_uses IsUsedUp asks other line tokens same h

pub returns-clause-stored : goal.returns-clause-stored
returns-clause-stored c = same_planned
