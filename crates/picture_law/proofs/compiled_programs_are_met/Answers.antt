use Rattle.picture_law.proofs.Laws.{compiled_is_met, runs_compiled}
use Rattle.picture_law.proofs.compiled_programs_are_met.Goals as goal

pub returns-clause-runs : goal.returns-clause-runs
returns-clause-runs c = runs_compiled

pub returns-clause-captures : goal.returns-clause-captures
returns-clause-captures c = compiled_is_met
