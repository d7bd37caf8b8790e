use Rattle.std.proofs.Common.{sym, ◌∙◌}
use Rattle.dma_machine.proofs.Noting.{whole_taken}
use Rattle.dma_machine.proofs.seeing.taken_by_application.Goals as goal

pub returns-then-takes_whole-clause-taken : goal.returns-then-takes_whole-clause-taken
returns-then-takes_whole-clause-taken c =
    whole_taken (record { entry = c.args.entry; taken = c.args.taken; demand = c.args.demand })
    (sym c.takes_whole.ensures ∙ c.if-takes_whole.true)
