use Rattle.std.proofs.Common.{◌∙◌, ap}
use Rattle.machine_model.specs.Steps.{Control}
use Rattle.chain_model.specs.Live.{Plain}
use Rattle.slot_chain.specs.States.{lived}
use Rattle.slot_chain.proofs.Stepping.{stepped_patching, stepped_state, stepped_wheel}
use Rattle.slot_chain.proofs.chain.Chain.push_control.Goals as goal

pub invariant_of-self : goal.invariant_of-self
invariant_of-self g c =
    let here = c.self.inside in (
      stepped_wheel here.base here.slots here.parts.items here.patching.items here.wheel.machine c.push_control.new.self
          (Control c.args.c) c.push_control.ensures.state
          here.wheel.programs.items here.wheel.current c.self.invariant.0,
      stepped_patching here.base here.slots here.parts.items here.patching.items here.wheel.machine c.push_control.new.self
          (Control c.args.c) c.push_control.ensures.state
          c.self.invariant.1,
    )

pub returns-clause-state : goal.returns-clause-state
returns-clause-state g c =
    let here = c.self.inside in
    stepped_state here.base here.slots here.parts.items here.patching.items here.wheel.machine c.push_control.new.self
    (Control c.args.c) c.push_control.ensures.state
    here.wheel.programs.items here.wheel.current c.self.invariant.0 (λ is. absurd (cc))
    ∙ ap (lived (Plain (Control c.args.c))) c.self.view_is
