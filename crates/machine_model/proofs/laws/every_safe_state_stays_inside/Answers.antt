use Rattle.machine_model.proofs.Runs.{IsInside-run}
use Rattle.machine_model.proofs.laws.every_safe_state_stays_inside.Goals as goal

pub returns : goal.returns
returns c = IsInside-run
