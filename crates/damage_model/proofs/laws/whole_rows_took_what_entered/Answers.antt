use Rattle.damage_model.proofs.EnteredRows.{whole_rows_entered}
use Rattle.damage_model.proofs.laws.whole_rows_took_what_entered.Goals as goal

pub returns : goal.returns
returns c = whole_rows_entered
