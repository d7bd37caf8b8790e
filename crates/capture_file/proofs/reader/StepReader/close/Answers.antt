use Rattle.capture_file.proofs.Answered.{reader-ends}
use Rattle.capture_file.proofs.reader.StepReader.close.Goals as goal

pub returns-clause-rest : goal.returns-clause-rest
returns-clause-rest c = reader-ends c.args.self.now c.closing.ensures.valid
