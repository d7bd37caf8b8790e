use Rattle.std.proofs.Common.{ap, sym, ◌∙◌}
use Rattle.dma_machine.specs.Stills.{is_still}
use Rattle.dma_machine.proofs.StillSeen.{still_counts, still_seen}
use Rattle.dma_machine.proofs.Machine.stands_still.Goals as goal

pub stands_still-requires : goal.stands_still-requires
stands_still-requires g c = c.self.invariant.1

pub returns-clause-counts : goal.returns-clause-counts
returns-clause-counts g c e = still_counts c.args.self.now (ap is_still (sym c.self.view_is) ∙ sym c.stands_still.ensures ∙ e)

pub returns-clause-seen : goal.returns-clause-seen
returns-clause-seen g c e = still_seen c.args.self.now (ap is_still (sym c.self.view_is) ∙ sym c.stands_still.ensures ∙ e)
