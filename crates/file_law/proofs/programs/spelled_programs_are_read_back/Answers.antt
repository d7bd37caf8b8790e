use Rattle.file_law.proofs.Spellings.{spelled_back}
use Rattle.file_law.proofs.programs.spelled_programs_are_read_back.Goals as goal

pub returns : goal.returns
returns c = spelled_back
