use Rattle.machine_model.specs.Steps.{Host}
use Rattle.dma_machine.proofs.Machines.{IsMachine-step}
use Rattle.dma_machine.proofs.Stills.{not_still}
use Rattle.dma_machine.proofs.Machine.host.Goals as goal

pub invariant_of-self : goal.invariant_of-self
invariant_of-self g c =
    (IsMachine-step (Host c.args.w) _ _ c.host.ensures.state tt c.requires c.self.invariant.0, not_still _ _ c.host.ensures.stands)

pub returns-clause-facts : goal.returns-clause-facts
returns-clause-facts g c = IsMachine-step (Host c.args.w) _ _ c.host.ensures.state tt c.requires c.self.invariant.0
