use Rattle.damage_model.proofs.LastSignals.{answers_stay}
use Rattle.damage_model.proofs.laws.answers_stay_after_the_last_signal.Goals as goal

pub returns : goal.returns
returns c = answers_stay
