use Rattle.chain_damage.proofs.Held as proved
use Rattle.chain_damage.proofs.sections_hold_whole_rows.Goals as goal

pub returns : goal.returns
returns c = proved.sections_hold_whole_rows
