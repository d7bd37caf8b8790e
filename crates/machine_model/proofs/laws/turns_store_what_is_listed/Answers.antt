use Rattle.machine_model.proofs.Stored.{memory-turn, byte_at-turn}
use Rattle.machine_model.proofs.laws.turns_store_what_is_listed.Goals as goal

pub returns-clause-memory : goal.returns-clause-memory
returns-clause-memory c = memory-turn

pub returns-clause-others : goal.returns-clause-others
returns-clause-others c = byte_at-turn
