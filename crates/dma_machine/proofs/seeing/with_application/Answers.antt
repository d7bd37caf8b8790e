use Rattle.std.proofs.Common.{sym, ◌∙◌}
use Rattle.dma_machine.proofs.Noting.{whole_noted}
use Rattle.dma_machine.proofs.seeing.with_application.Goals as goal

pub returns-then-takes_whole : goal.returns-then-takes_whole
returns-then-takes_whole c =
    whole_noted c.args.q (record { entry = c.args.entry; taken = c.args.taken; demand = c.args.demand }) c.args.seen
    (sym c.takes_whole.ensures ∙ c.if-takes_whole.true)
