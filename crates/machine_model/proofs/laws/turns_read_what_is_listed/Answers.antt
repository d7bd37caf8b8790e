use Rattle.machine_model.proofs.SameTurn.{turn-with_program}
use Rattle.machine_model.proofs.FetchedAlike.{turn-fetches}
use Rattle.machine_model.proofs.laws.turns_read_what_is_listed.Goals as goal

pub returns-clause-listed : goal.returns-clause-listed
returns-clause-listed c = turn-fetches

pub returns-clause-idle : goal.returns-clause-idle
returns-clause-idle c = turn-with_program
