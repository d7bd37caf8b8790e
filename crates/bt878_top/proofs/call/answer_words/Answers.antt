use Rattle.std.proofs.Common.{◌≡◌, Ok, sym, subst, ◌∙◌}
use Rattle.bt878_words.specs.Words.{task_of}
use Rattle.bt878_contract.specs.Tasks.{AreNames, names_read, names_written}
use Rattle.bt878_contract.proofs.Words.{all_allowed}
use Rattle.bt878_contract.specs.Tasks as tasks
use Rattle.bt878_words.specs.Words as words
use Rattle.bt878_top.proofs.call.answer_words.Goals as goal

pub answer_task-requires-clause-opens : goal.answer_task-requires-clause-opens
answer_task-requires-clause-opens g c =
    let told = (g.D.Desk.seen c.args.desk.now).told.may_open in
    let task = c.in-Ok.task in
    let is : task_of c.args.words.now ≡ Ok task = sym c.read_task.ensures.task ∙ c.in-Ok.is in
    all_allowed (tasks.reads task) told (subst (λ r. AreNames (names_read r) told) is c.requires.opens)

pub answer_task-requires-clause-creates : goal.answer_task-requires-clause-creates
answer_task-requires-clause-creates g c =
    let told = (g.D.Desk.seen c.args.desk.now).told.may_create in
    let task = c.in-Ok.task in
    let is : task_of c.args.words.now ≡ Ok task = sym c.read_task.ensures.task ∙ c.in-Ok.is in
    all_allowed (words.writes task) told (subst (λ r. AreNames (names_written r) told) is c.requires.creates)
