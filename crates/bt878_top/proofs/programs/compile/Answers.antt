use Rattle.bt878_words.specs.declared.Task.TheVariants as command
use Rattle.bt878_top.proofs.Products.{compile_made}
use Rattle.bt878_top.proofs.programs.compile.Goals as goal

pub returns-clause-makes : goal.returns-clause-makes
returns-clause-makes g c =
    compile_made c.args.desc (g.D.Desk.seen c.args.desk.now).told.inputs c.args.program c.in_ok-checked.checked c.in_ok-into_program.field-0
    c.fill-fill.result _ c.in_ok-into_program.ensures.program c.fill-fill.ensures.value
    c.built.ensures c.in_ok-checked.ensures.describes
