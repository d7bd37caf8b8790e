use Rattle.field_law.proofs.Worked.{receives, paints}
use Rattle.field_law.proofs.worked_field_arrives.Goals as goal

pub returns-clause-received : goal.returns-clause-received
returns-clause-received c = receives

pub returns-clause-painted : goal.returns-clause-painted
returns-clause-painted c = paints
