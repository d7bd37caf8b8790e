use Rattle.dma_machine.proofs.Machines.{IsMachine-acted, IsMachine-CanWork}
use Rattle.dma_machine.proofs.Machine.act.Goals as goal

pub act-requires : goal.act-requires
act-requires g c = record { can = IsMachine-CanWork _ c.self.invariant.0; stands = c.self.invariant.1 }

pub invariant_of-self : goal.invariant_of-self
invariant_of-self g c = (IsMachine-acted _ _ c.act.ensures.state c.self.invariant.0, c.act.ensures.stands)

pub returns-clause-facts : goal.returns-clause-facts
returns-clause-facts g c = IsMachine-acted _ _ c.act.ensures.state c.self.invariant.0
