use Rattle.damage_law.proofs.ArrivedFields as proved
use Rattle.damage_law.proofs.laws.arrived_rows_are_whole.Goals as goal

pub returns : goal.returns
returns c = proved.arrived_rows_are_whole
