use Rattle.file_law.proofs.Faults.{beginnings_are_short, short_at_its_end}
use Rattle.file_law.proofs.programs.short_files_have_short_beginnings.Goals as goal

pub returns-clause-place : goal.returns-clause-place
returns-clause-place c = short_at_its_end

pub returns-clause-beginnings : goal.returns-clause-beginnings
returns-clause-beginnings c = beginnings_are_short
