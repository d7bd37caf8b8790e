use Rattle.picture_law.proofs.Laws.{shows_no_fault, signals_field}
use Rattle.picture_law.proofs.fields_show_no_fault.Goals as goal

pub returns-clause-quiet : goal.returns-clause-quiet
returns-clause-quiet c = shows_no_fault

pub returns-clause-signalled : goal.returns-clause-signalled
returns-clause-signalled c = signals_field
