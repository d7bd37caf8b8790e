use Rattle.field_law.proofs.GrantedStores.{trail_stores_granted}
use Rattle.field_law.proofs.trail_grants_its_stores.Goals as goal

pub returns : goal.returns
returns c = trail_stores_granted
