use Rattle.damage_law.proofs.StandingRows as proved
use Rattle.damage_law.proofs.laws.whole_rows_stand.Goals as goal

pub returns : goal.returns
returns c = proved.whole_rows_stand
