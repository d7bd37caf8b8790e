use Rattle.ring_model.proofs.Sound.{ring_sound}
use Rattle.ring_model.proofs.laws.ring_programs_are_sound.Goals as goal

pub returns : goal.returns
returns c = ring_sound
