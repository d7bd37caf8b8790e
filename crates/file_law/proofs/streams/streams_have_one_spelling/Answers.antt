use Rattle.file_law.proofs.StreamFiles.{has_spelling, one_spelling}
use Rattle.file_law.proofs.streams.streams_have_one_spelling.Goals as goal

pub returns-clause-some : goal.returns-clause-some
returns-clause-some c = has_spelling

pub returns-clause-one : goal.returns-clause-one
returns-clause-one c = one_spelling
