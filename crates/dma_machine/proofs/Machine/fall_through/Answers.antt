use Rattle.machine_model.specs.Steps.{Push}
use Rattle.dma_machine.proofs.Machines.{IsMachine-CanWork, IsMachine-acted, IsMachine-step}
use Rattle.dma_machine.proofs.Machine.fall_through.Goals as goal
use Rattle.std.proofs.Common.{refl}

pub fall_through-requires-clause-can : goal.fall_through-requires-clause-can
fall_through-requires-clause-can g c = IsMachine-CanWork _ c.self.invariant.0

pub invariant_of-self : goal.invariant_of-self
invariant_of-self g c =
    let pushed = IsMachine-step (Push c.args.q c.args.e) _ _ refl c.requires.data tt c.self.invariant.0 in
    (IsMachine-acted _ _ c.fall_through.ensures.state pushed, c.fall_through.ensures.stands)

pub returns-clause-facts : goal.returns-clause-facts
returns-clause-facts g c =
    let pushed = IsMachine-step (Push c.args.q c.args.e) _ _ refl c.requires.data tt c.self.invariant.0 in
    IsMachine-acted _ _ c.fall_through.ensures.state pushed
