use Rattle.machine_model.proofs.InstrSeen.{seen-StandsAt}
use Rattle.machine_model.proofs.laws.running_instructions_are_seen.Goals as goal

pub returns : goal.returns
returns c = seen-StandsAt
