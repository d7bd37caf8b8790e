use Rattle.generated_law.proofs.ReadBack.{are_read_back, are_short}
use Rattle.generated_law.proofs.generated_streams_are_read_back.Goals as goal

pub returns-clause-read : goal.returns-clause-read
returns-clause-read c = are_read_back

pub returns-clause-short : goal.returns-clause-short
returns-clause-short c = are_short
