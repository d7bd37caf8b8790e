use Rattle.file_law.proofs.Spellings.{is_spelled, one_spelling}
use Rattle.file_law.proofs.programs.program_files_have_one_spelling.Goals as goal

pub returns-clause-some : goal.returns-clause-some
returns-clause-some c = is_spelled

pub returns-clause-one : goal.returns-clause-one
returns-clause-one c = one_spelling
