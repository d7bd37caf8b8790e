use Rattle.file_law.proofs.Faults.{fault_is_decided, none_begins_so}
use Rattle.file_law.proofs.programs.faults_are_decided_by_their_fields.Goals as goal

pub returns-clause-decided : goal.returns-clause-decided
returns-clause-decided c = fault_is_decided

pub returns-clause-none : goal.returns-clause-none
returns-clause-none c = none_begins_so
