use Rattle.std.proofs.Common.{sym, subst}
use Rattle.command_steps.specs.Outputs.{Finishes}
use Rattle.bt878_top.specs.declared.produced.Produced.{Produced}
use Rattle.bt878_top.specs.Products.{product_of}
use Rattle.bt878_top.proofs.produced.Produced.deliver.Goals as goal

pub returns-in-Damaged : goal.returns-in-Damaged
returns-in-Damaged g c =
    let see = g.D.Desk.seen in
    subst
    (λ (p : Produced). Finishes (product_of p).files (product_of p).text c.say_rows.result (see c.args.desk.now) (see c.say_rows.new.desk))
    (sym c.in-Damaged.is) c.say_rows.ensures
