use Rattle.machine_model.specs.Steps.{Control}
use Rattle.dma_machine.proofs.Machines.{IsMachine-step}
use Rattle.dma_machine.proofs.Stills.{not_still}
use Rattle.dma_machine.proofs.Machine.push_control.Goals as goal

pub invariant_of-self : goal.invariant_of-self
invariant_of-self g c = (
  IsMachine-step (Control c.args.c) _ _ c.push_control.ensures.state tt tt c.self.invariant.0,
  not_still _ _ c.push_control.ensures.stands,
)

pub returns-clause-facts : goal.returns-clause-facts
returns-clause-facts g c = IsMachine-step (Control c.args.c) _ _ c.push_control.ensures.state tt tt c.self.invariant.0
