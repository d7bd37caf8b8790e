use Rattle.check_model.proofs.words.WhyDisplay.fmt.Goals as goal

pub returns-in-SolAwaited-clause-writes : goal.returns-in-SolAwaited-clause-writes
returns-in-SolAwaited-clause-writes g c plain ok = rw c.in-SolAwaited.is (c.write-in-SolAwaited.ensures.writes plain ok)

pub returns-in-EolAwaited-clause-writes : goal.returns-in-EolAwaited-clause-writes
returns-in-EolAwaited-clause-writes g c plain ok = rw c.in-EolAwaited.is (c.write-in-EolAwaited.ensures.writes plain ok)

pub returns-in-NoSolAwaited-clause-writes : goal.returns-in-NoSolAwaited-clause-writes
returns-in-NoSolAwaited-clause-writes g c plain ok = rw c.in-NoSolAwaited.is (c.write-in-NoSolAwaited.ensures.writes plain ok)
