use Rattle.machine_model.proofs.Runs.{run-run_in}
use Rattle.field_law.proofs.run_meets_its_program.Goals as goal

pub returns : goal.returns
returns c = run-run_in
