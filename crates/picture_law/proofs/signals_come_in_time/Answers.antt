use Rattle.picture_law.proofs.Laws.{signals_in_time}
use Rattle.picture_law.proofs.signals_come_in_time.Goals as goal

pub returns : goal.returns
returns c = signals_in_time
