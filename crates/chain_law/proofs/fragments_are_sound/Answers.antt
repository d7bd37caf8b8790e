use Rattle.chain_law.proofs.Sound.{fragments_sound, one_fragment_sound}
use Rattle.chain_law.proofs.fragments_are_sound.Goals as goal

pub returns-clause-one : goal.returns-clause-one
returns-clause-one c = one_fragment_sound

pub returns-clause-all : goal.returns-clause-all
returns-clause-all c = fragments_sound
