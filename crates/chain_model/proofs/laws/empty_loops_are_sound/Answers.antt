use Rattle.chain_model.proofs.Slots.{empty_sound}
use Rattle.chain_model.proofs.laws.empty_loops_are_sound.Goals as goal

pub returns : goal.returns
returns c = empty_sound
