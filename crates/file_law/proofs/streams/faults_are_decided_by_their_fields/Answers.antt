use Rattle.file_law.proofs.FaultyStreams.{faults_decided, no_good_beginning}
use Rattle.file_law.proofs.streams.faults_are_decided_by_their_fields.Goals as goal

pub returns-clause-decided : goal.returns-clause-decided
returns-clause-decided c = faults_decided

pub returns-clause-none : goal.returns-clause-none
returns-clause-none c = no_good_beginning
