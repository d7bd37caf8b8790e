use Rattle.std.proofs.Common.{ap}
use Rattle.dma_machine.specs.Views.{state_of}
use Rattle.dma_machine.proofs.Machines.{IsMachine-CanWork}
use Rattle.dma_machine.proofs.OpenFalls.{falls_leave}
use Rattle.dma_machine.proofs.Machine.fall_open_on.Goals as goal

pub fall_open-requires-clause-can : goal.fall_open-requires-clause-can
fall_open-requires-clause-can g c = IsMachine-CanWork _ c.self.invariant.0

pub invariant_of-self : goal.invariant_of-self
invariant_of-self g c = (
  falls_leave c.fall_open.result c.args.q c.args.e.now c.args.count (state_of g.R.Ram.memory c.self.inside.engine) _
      c.fall_open.ensures.state
      (λ e. ap (state_of g.R.Ram.memory) (c.fall_open.ensures.none e)) c.requires c.self.invariant.0,
  c.fall_open.ensures.stands,
)

pub returns-clause-facts : goal.returns-clause-facts
returns-clause-facts g c =
    falls_leave c.fall_open.result c.args.q c.args.e.now c.args.count (state_of g.R.Ram.memory c.self.inside.engine) _
    c.fall_open.ensures.state
    (λ e. ap (state_of g.R.Ram.memory) (c.fall_open.ensures.none e)) c.requires c.self.invariant.0
