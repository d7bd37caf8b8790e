use Rattle.damage_law.proofs.AnswersKept.{keeps_answers, tells_signals}
use Rattle.damage_law.proofs.laws.tracks_tell_whole_rows.Goals as goal

pub returns-clause-rows : goal.returns-clause-rows
returns-clause-rows c = keeps_answers

pub returns-clause-none : goal.returns-clause-none
returns-clause-none c = tells_signals
