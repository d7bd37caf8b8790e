use Rattle.std.proofs.Common.{sym, ap, ◌∙◌}
use Rattle.chain_model.specs.Chains.{patched}
use Rattle.dma_machine.specs.Stills.{is_still}
use Rattle.dma_machine.proofs.Standing.{is_still-program}
use Rattle.slot_chain.specs.States.{ChainState, chain_of}
use Rattle.slot_chain.proofs.chain.Chain.stands_still.Goals as goal

pub returns : goal.returns
returns g c =
    let here = c.self.inside in
    c.stands_still.ensures.still
    ∙ sym (is_still-program
    (patched (chain_of here.base here.slots here.parts.items here.wheel.machine.program.grants) here.patching.items) here.wheel.machine)
    ∙ ap (λ (s : ChainState). is_still s.live.machine) c.self.view_is
