use Rattle.ring_model.proofs.Few.{ring_few}
use Rattle.ring_model.proofs.RingProgram.{ring_made}
use Rattle.ring_model.proofs.laws.ring_programs_can_be_made.Goals as goal

pub returns-clause-words : goal.returns-clause-words
returns-clause-words c = ring_few

pub returns-clause-program : goal.returns-clause-program
returns-clause-program c = ring_made
