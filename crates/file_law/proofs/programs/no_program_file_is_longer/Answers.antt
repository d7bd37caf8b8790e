use Rattle.file_law.proofs.Longest.{none_longer}
use Rattle.file_law.proofs.programs.no_program_file_is_longer.Goals as goal

pub returns : goal.returns
returns c = none_longer
