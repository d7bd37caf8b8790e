use Rattle.dma_machine.proofs.Machines.{IsMachine-acted, IsMachine-CanWork, IsMachine-pc}
use Rattle.dma_machine.proofs.Machine.act_told.Goals as goal

pub act_told-requires : goal.act_told-requires
act_told-requires g c = record { can = IsMachine-CanWork _ c.self.invariant.0; small = IsMachine-pc _ c.self.invariant.0 }

pub invariant_of-self : goal.invariant_of-self
invariant_of-self g c = (IsMachine-acted _ _ c.act_told.ensures.state c.self.invariant.0, c.act_told.ensures.stands)

pub returns-clause-facts : goal.returns-clause-facts
returns-clause-facts g c = IsMachine-acted _ _ c.act_told.ensures.state c.self.invariant.0
