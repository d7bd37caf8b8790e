use Rattle.risc_verify.proofs.Rounds.{sound-from_places}
use Rattle.risc_verify.proofs.a_path_comes_round.Goals as goal

pub returns : goal.returns
returns c = sound-from_places
