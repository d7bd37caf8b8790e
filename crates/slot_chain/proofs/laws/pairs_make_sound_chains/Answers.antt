use Rattle.slot_chain.proofs.Pairs.{is, is_sound, shows}
use Rattle.slot_chain.proofs.laws.pairs_make_sound_chains.Goals as goal

pub returns-clause-sound : goal.returns-clause-sound
returns-clause-sound c = λ first second pair. (is first second pair, is_sound first second pair)

pub returns-clause-buffers : goal.returns-clause-buffers
returns-clause-buffers c = λ first second slot buffer pair low few. shows first second pair slot buffer low few
