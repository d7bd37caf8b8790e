use Rattle.turn_trace.proofs.Tracings.{lines-append}
use Rattle.turn_trace.proofs.laws.texts_are_appended.Goals as goal

pub returns : goal.returns
returns c = lines-append
