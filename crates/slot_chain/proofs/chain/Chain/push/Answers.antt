use Rattle.std.proofs.Common.{◌∙◌, ap}
use Rattle.machine_model.specs.Steps.{Push}
use Rattle.chain_model.specs.Live.{Plain}
use Rattle.slot_chain.specs.States.{lived}
use Rattle.slot_chain.proofs.Stepping.{stepped_patching, stepped_state, stepped_wheel}
use Rattle.slot_chain.proofs.chain.Chain.push.Goals as goal

pub invariant_of-self : goal.invariant_of-self
invariant_of-self g c =
    let here = c.self.inside in (
      stepped_wheel here.base here.slots here.parts.items here.patching.items here.wheel.machine c.push.new.self
          (Push c.args.q c.args.e) c.push.ensures.state
          here.wheel.programs.items here.wheel.current c.self.invariant.0,
      stepped_patching here.base here.slots here.parts.items here.patching.items here.wheel.machine c.push.new.self
          (Push c.args.q c.args.e) c.push.ensures.state
          c.self.invariant.1,
    )

pub returns-clause-state : goal.returns-clause-state
returns-clause-state g c =
    let here = c.self.inside in
    stepped_state here.base here.slots here.parts.items here.patching.items here.wheel.machine c.push.new.self
    (Push c.args.q c.args.e) c.push.ensures.state
    here.wheel.programs.items here.wheel.current c.self.invariant.0 (λ is. absurd (cc))
    ∙ ap (lived (Plain (Push c.args.q c.args.e))) c.self.view_is
