use Rattle.std.proofs.Common.{sym, ap, ◌∙◌}
use Rattle.chain_model.specs.Chains.{patched}
use Rattle.dma_machine.specs.Plain.{plain_room}
use Rattle.dma_machine.proofs.PlainRoom.{plain_room-program}
use Rattle.slot_chain.specs.States.{ChainState, chain_of}
use Rattle.slot_chain.proofs.chain.Chain.plain_room.Goals as goal

pub returns : goal.returns
returns g c =
    let here = c.self.inside in
    let words = patched (chain_of here.base here.slots here.parts.items here.wheel.machine.program.grants) here.patching.items in
    c.plain_room.ensures.room
    ∙ sym (plain_room-program words c.args.q here.wheel.machine)
    ∙ ap (λ (s : ChainState). plain_room c.args.q s.live.machine) c.self.view_is
