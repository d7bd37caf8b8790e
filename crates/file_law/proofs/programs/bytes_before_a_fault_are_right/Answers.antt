use Rattle.file_law.proofs.Faults.{begins_before, right_before, whole_before}
use Rattle.file_law.proofs.programs.bytes_before_a_fault_are_right.Goals as goal

pub returns-clause-right : goal.returns-clause-right
returns-clause-right c = right_before

pub returns-clause-good : goal.returns-clause-good
returns-clause-good c = whole_before

pub returns-clause-begins : goal.returns-clause-begins
returns-clause-begins c = begins_before
