use Rattle.bt878_words.specs.Words.{writes}
use Rattle.command_steps.specs.Outputs.{names_of}
use Rattle.bt878_top.specs.Products.{product_of}
use Rattle.bt878_top.proofs.Ending.{ends_finished, ends_refused, still_allowed}
use Rattle.bt878_top.proofs.call.answer_task.Goals as goal

pub deliver-requires : goal.deliver-requires
deliver-requires g c =
    let see = g.D.Desk.seen in
    let e = c.in-Ok.ensures in
    still_allowed (writes c.args.task) (names_of (product_of c.in-Ok.produced).files) (see c.args.desk.now).told
    (see c.produce.new.desk).told e.makes.names e.takes.told c.requires.creates

pub returns-in-Ok : goal.returns-in-Ok
returns-in-Ok g c =
    let see = g.D.Desk.seen in
    let e = c.in-Ok.ensures in
    ends_finished c.args.task (product_of c.in-Ok.produced) (see c.args.desk.now) (see c.produce.new.desk)
    (see c.deliver.new.desk) e.takes e.makes c.deliver.result c.deliver.ensures

pub returns-in-Err : goal.returns-in-Err
returns-in-Err g c =
    let see = g.D.Desk.seen in
    ends_refused c.args.task c.in-Err.refusal c.refuse.result (see c.args.desk.now) (see c.produce.new.desk)
    (see c.refuse.new.desk) c.in-Err.ensures.takes c.refuse.ensures
