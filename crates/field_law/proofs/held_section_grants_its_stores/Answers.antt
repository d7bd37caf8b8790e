use Rattle.field_law.proofs.GrantedStores.{stores_granted}
use Rattle.field_law.proofs.held_section_grants_its_stores.Goals as goal

pub returns : goal.returns
returns c = stores_granted
