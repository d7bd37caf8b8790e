use Rattle.std.proofs.Common.{sym, subst}
use Rattle.dma_machine.specs.Facts.{IsMachine}
use Rattle.dma_machine.proofs.Machines.{IsMachine-turns}
use Rattle.dma_machine.proofs.Standing.{StandsAs-turns}
use Rattle.dma_machine.proofs.Machine.count.Goals as goal

pub invariant_of-self : goal.invariant_of-self
invariant_of-self g c =
    rw (c.count.ensures.state, c.count.ensures.stands)
    (IsMachine-turns _ _ c.self.invariant.0, StandsAs-turns _ _ _ c.self.invariant.1)

pub returns-clause-facts : goal.returns-clause-facts
returns-clause-facts g c = subst IsMachine (sym c.count.ensures.state) (IsMachine-turns _ _ c.self.invariant.0)
