use Rattle.std.proofs.Common.{◌≤◌, ◌*◌, length, ap, subst, sym, ◌∙◌}
use Rattle.chain_model.specs.Chains.{patched}
use Rattle.dma_machine.specs.Plain.{plain_room}
use Rattle.dma_machine.proofs.PlainRoom.{plain_room-program}
use Rattle.machine_model.specs.PlainEntries.{plain_steps}
use Rattle.slot_chain.specs.States.{ChainState, chain_of, stepped}
use Rattle.slot_chain.proofs.StillTurns.{same_patching, same_wheel, stepped_state}
use Rattle.slot_chain.proofs.chain.Chain.push_plain.Goals as goal

pub push_plain-requires-clause-room : goal.push_plain-requires-clause-room
push_plain-requires-clause-room g c =
    let here = c.self.inside in
    let words = patched (chain_of here.base here.slots here.parts.items here.wheel.machine.program.grants) here.patching.items in
    let same =
    sym (plain_room-program words c.args.q here.wheel.machine)
    ∙ ap (λ (s : ChainState). plain_room c.args.q s.live.machine) c.self.view_is in
    subst (λ n. length c.args.dwords.now ≤ 4 * n) (sym same) c.requires.room

pub invariant_of-self : goal.invariant_of-self
invariant_of-self g c =
    let here = c.self.inside in
    let entries = c.requires.plain.0 in
    let ran = c.push_plain.ensures.state entries c.requires.plain.1 in (
      same_wheel here.base here.slots here.parts.items here.patching.items here.wheel.machine c.push_plain.new.self
          (plain_steps c.args.q entries) ran
          here.wheel.programs.items here.wheel.current c.self.invariant.0,
      same_patching here.base here.slots here.parts.items here.patching.items here.wheel.machine c.push_plain.new.self
          (plain_steps c.args.q entries) ran c.self.invariant.1,
    )

pub returns : goal.returns
returns g c = λ entries plain.
    let here = c.self.inside in
    let words = patched (chain_of here.base here.slots here.parts.items here.wheel.machine.program.grants) here.patching.items in
    stepped_state here.base here.slots here.parts.items here.patching.items here.wheel.machine c.push_plain.new.self
    (plain_steps c.args.q entries)
    (c.push_plain.ensures.state entries plain) (c.push_plain.ensures.others words entries plain)
    ∙ ap (stepped (plain_steps c.args.q entries)) c.self.view_is
