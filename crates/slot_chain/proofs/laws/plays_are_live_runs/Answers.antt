use Rattle.slot_chain.proofs.Plays.{all_live, plays_run}
use Rattle.slot_chain.proofs.laws.plays_are_live_runs.Goals as goal

pub returns-clause-steps : goal.returns-clause-steps
returns-clause-steps c = λ chain steps has fits. all_live chain has steps fits

pub returns-clause-runs : goal.returns-clause-runs
returns-clause-runs c = plays_run
