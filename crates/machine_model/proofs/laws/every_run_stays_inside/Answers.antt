use Rattle.machine_model.proofs.Runs.{IsInside-first_state}
use Rattle.machine_model.proofs.laws.every_run_stays_inside.Goals as goal

pub returns : goal.returns
returns c = IsInside-first_state
