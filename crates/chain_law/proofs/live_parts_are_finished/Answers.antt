use Rattle.std.proofs.Common.{refl}
use Rattle.chain_law.proofs.Behind.{live_parts_are_finished}
use Rattle.chain_law.proofs.live_parts_are_finished.Goals as goal

pub returns-clause-finished : goal.returns-clause-finished
returns-clause-finished c = live_parts_are_finished

pub returns-clause-behind : goal.returns-clause-behind
returns-clause-behind c = (refl, (refl, (refl, (refl, (refl, (refl, (refl, (refl, (refl, (refl, tt))))))))))

pub returns-clause-next : goal.returns-clause-next
returns-clause-next c = refl
