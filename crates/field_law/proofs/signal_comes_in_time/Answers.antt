use Rattle.field_law.proofs.Laws.{is_bounded}
use Rattle.field_law.proofs.signal_comes_in_time.Goals as goal

pub returns : goal.returns
returns c = is_bounded
