use Rattle.field_law.proofs.OnPath.{sound_holds}
use Rattle.field_law.proofs.section_on_the_path_is_held.Goals as goal

pub returns : goal.returns
returns c = sound_holds
