use Rattle.machine_model.specs.Steps.{Push}
use Rattle.dma_machine.proofs.Machines.{IsMachine-step}
use Rattle.dma_machine.proofs.Stills.{not_still}
use Rattle.dma_machine.proofs.Machine.push.Goals as goal

pub invariant_of-self : goal.invariant_of-self
invariant_of-self g c =
    (IsMachine-step (Push c.args.q c.args.e) _ _ c.push.ensures.state c.requires tt c.self.invariant.0, not_still _ _ c.push.ensures.stands)

pub returns-clause-facts : goal.returns-clause-facts
returns-clause-facts g c = IsMachine-step (Push c.args.q c.args.e) _ _ c.push.ensures.state c.requires tt c.self.invariant.0
