use Rattle.generated_law.proofs.Worked.{taken}
use Rattle.generated_law.proofs.the_smallest_field_is_signalled.Goals as goal

pub returns : goal.returns
returns c = taken
