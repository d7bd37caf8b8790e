use Rattle.generated_law.proofs.Streams.{fields_are_signalled, fields_arrive, fields_stand, pictures_are_shown}
use Rattle.generated_law.proofs.generated_fields_arrive.Goals as goal

pub returns-clause-stand : goal.returns-clause-stand
returns-clause-stand c = fields_stand

pub returns-clause-arrive : goal.returns-clause-arrive
returns-clause-arrive c = fields_arrive

pub returns-clause-signalled : goal.returns-clause-signalled
returns-clause-signalled c = fields_are_signalled

pub returns-clause-shown : goal.returns-clause-shown
returns-clause-shown c = pictures_are_shown
