use Rattle.bt878_top.proofs.Products.{help_made}
use Rattle.bt878_top.proofs.call.produce.Goals as goal

pub returns-in-Help-clause-makes : goal.returns-in-Help-clause-makes
returns-in-Help-clause-makes g c = rw c.in-Help.is (help_made (g.D.Desk.seen c.args.desk.now).told.inputs)
