use Rattle.damage_model.proofs.Leaving.{turn-drops}
use Rattle.damage_model.proofs.laws.entries_leave_at_the_front.Goals as goal

pub returns : goal.returns
returns c = turn-drops
