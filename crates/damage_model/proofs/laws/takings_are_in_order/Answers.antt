use Rattle.damage_model.proofs.Orders.{lines_are_whole, takes_in_order}
use Rattle.damage_model.proofs.laws.takings_are_in_order.Goals as goal

pub returns-clause-order : goal.returns-clause-order
returns-clause-order c = takes_in_order

pub returns-clause-lines : goal.returns-clause-lines
returns-clause-lines c = lines_are_whole
