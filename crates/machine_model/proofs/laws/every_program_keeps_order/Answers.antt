use Rattle.machine_model.proofs.Runs.{IsOrderly-run_in, chunks-run_in}
use Rattle.machine_model.proofs.laws.every_program_keeps_order.Goals as goal

pub returns-clause-kept : goal.returns-clause-kept
returns-clause-kept c = IsOrderly-run_in

pub returns-clause-chunks : goal.returns-clause-chunks
returns-clause-chunks c = chunks-run_in
