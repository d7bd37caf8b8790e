use Rattle.std.proofs.Common.{replicate, sym, ap, subst, ◌≡◌, ◌∙◌, true}
use Rattle.machine_model.specs.Steps.{Turn}
use Rattle.chain_model.specs.Chains.{patched}
use Rattle.dma_machine.specs.Stills.{is_still}
use Rattle.dma_machine.proofs.Standing.{is_still-program}
use Rattle.slot_chain.specs.States.{ChainState, chain_of, turned}
use Rattle.slot_chain.proofs.StillTurns.{same_patching, same_wheel, stood_state}
use Rattle.slot_chain.proofs.chain.Chain.stand.Goals as goal

pub stand-requires : goal.stand-requires
stand-requires g c =
    let here = c.self.inside in
    sym (is_still-program
    (patched (chain_of here.base here.slots here.parts.items here.wheel.machine.program.grants) here.patching.items) here.wheel.machine)
    ∙ (ap (λ (s : ChainState). is_still s.live.machine) c.self.view_is ∙ c.requires)

pub invariant_of-self : goal.invariant_of-self
invariant_of-self g c =
    let here = c.self.inside in (
      same_wheel here.base here.slots here.parts.items here.patching.items here.wheel.machine c.stand.new.self
          (replicate c.args.count Turn) c.stand.ensures.state here.wheel.programs.items here.wheel.current c.self.invariant.0,
      same_patching here.base here.slots here.parts.items here.patching.items here.wheel.machine c.stand.new.self
          (replicate c.args.count Turn) c.stand.ensures.state c.self.invariant.1,
    )

pub returns : goal.returns
returns g c =
    let here = c.self.inside in
    stood_state here.base here.slots here.parts.items here.patching.items here.wheel.machine c.stand.new.self c.args.count
    c.stand.ensures.state
    (subst (λ (s : ChainState). is_still s.live.machine ≡ true) (sym c.self.view_is) c.requires)
    ∙ ap (turned c.args.count) c.self.view_is
