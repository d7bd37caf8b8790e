use Rattle.picture_law.proofs.Worked.{captures, signals, signalled}
use Rattle.picture_law.proofs.worked_picture_arrives.Goals as goal

pub returns-clause-captured : goal.returns-clause-captured
returns-clause-captured c = captures

pub returns-clause-silent : goal.returns-clause-silent
returns-clause-silent c = signals.0

pub returns-clause-signalled : goal.returns-clause-signalled
returns-clause-signalled c = signals.1

pub returns-clause-in_a_run : goal.returns-clause-in_a_run
returns-clause-in_a_run c = signalled
