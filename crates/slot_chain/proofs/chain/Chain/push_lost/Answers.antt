use Rattle.std.proofs.Common.{ap, ◌∙◌}
use Rattle.chain_model.specs.Chains.{patched}
use Rattle.dma_machine.specs.Lost.{loses_all, pushes}
use Rattle.machine_model.specs.Paths.{RiscProgram}
use Rattle.machine_model.specs.Steps.{with_program}
use Rattle.slot_chain.specs.States.{ChainState, chain_of, stepped}
use Rattle.slot_chain.proofs.LostPushes.{pushes_alike}
use Rattle.slot_chain.proofs.StillTurns.{same_patching, same_wheel, stepped_state}
use Rattle.slot_chain.proofs.chain.Chain.push_lost.Goals as goal

pub push_lost-requires : goal.push_lost-requires
push_lost-requires g c = ap (λ (s : ChainState). loses_all s.live.machine) c.self.view_is ∙ c.requires.loses

pub invariant_of-self : goal.invariant_of-self
invariant_of-self g c =
    let here = c.self.inside in
    let entries = c.requires.counted.0 in
    let ran = c.push_lost.ensures.state entries c.requires.counted.1 in (
      same_wheel here.base here.slots here.parts.items here.patching.items here.wheel.machine c.push_lost.new.self (pushes entries) ran
          here.wheel.programs.items here.wheel.current c.self.invariant.0,
      same_patching here.base here.slots here.parts.items here.patching.items here.wheel.machine c.push_lost.new.self (pushes entries) ran
          c.self.invariant.1,
    )

pub returns : goal.returns
returns g c = λ entries is.
    let here = c.self.inside in
    let words = patched (chain_of here.base here.slots here.parts.items here.wheel.machine.program.grants) here.patching.items in
    let ran = c.push_lost.ensures.state entries is in
    stepped_state here.base here.slots here.parts.items here.patching.items here.wheel.machine c.push_lost.new.self (pushes entries) ran
    (ap (with_program words) ran ∙ pushes_alike entries words here.wheel.machine (ap (λ (p : RiscProgram). p.base) c.self.invariant.0.runs))
    ∙ ap (stepped (pushes entries)) c.self.view_is
