use Rattle.machine_model.specs.Steps.{Host}
use Rattle.slot_chain.proofs.Stepping.{stepped_patching, stepped_wheel}
use Rattle.slot_chain.proofs.chain.Chain.host.Goals as goal

pub invariant_of-self : goal.invariant_of-self
invariant_of-self g c =
    let here = c.self.inside in (
      stepped_wheel here.base here.slots here.parts.items here.patching.items here.wheel.machine c.host.new.self
          (Host c.args.w) c.host.ensures.state
          here.wheel.programs.items here.wheel.current c.self.invariant.0,
      stepped_patching here.base here.slots here.parts.items here.patching.items here.wheel.machine c.host.new.self
          (Host c.args.w) c.host.ensures.state
          c.self.invariant.1,
    )
