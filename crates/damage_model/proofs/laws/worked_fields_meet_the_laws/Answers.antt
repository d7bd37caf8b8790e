use Rattle.std.proofs.Common.{refl}
use Rattle.picture_law.proofs.Worked.{signalled}
use Rattle.damage_model.proofs.Worked.{row_is_whole}
use Rattle.damage_model.proofs.laws.worked_fields_meet_the_laws.Goals as goal

pub returns-clause-whole : goal.returns-clause-whole
returns-clause-whole c = row_is_whole

pub returns-clause-arrived : goal.returns-clause-arrived
returns-clause-arrived c = signalled

pub returns-clause-last : goal.returns-clause-last
returns-clause-last c = refl
