use Rattle.file_law.proofs.LateFaults.{none_behind_the_highest, none_with_one_word, none_without_chunks}
use Rattle.file_law.proofs.programs.some_faults_are_found_late.Goals as goal

pub returns-clause-no_chunks : goal.returns-clause-no_chunks
returns-clause-no_chunks c = none_without_chunks

pub returns-clause-no_room : goal.returns-clause-no_room
returns-clause-no_room c = none_behind_the_highest

pub returns-clause-no_entry : goal.returns-clause-no_entry
returns-clause-no_entry c = none_with_one_word
