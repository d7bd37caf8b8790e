use Rattle.slot_chain.proofs.Promising.{plays_keep_promises}
use Rattle.slot_chain.proofs.laws.plays_keep_promises.Goals as goal

pub returns : goal.returns
returns c = plays_keep_promises
