use Rattle.std.proofs.Common.{◌∙◌, ap, subst}
use Rattle.machine_model.specs.Steps.{Turn}
use Rattle.chain_model.specs.Live.{LiveInside, Plain}
use Rattle.slot_chain.specs.States.{ChainState, chain_of, lived}
use Rattle.slot_chain.proofs.Turning.{can_enter, inside, turn_patching, turn_state, turn_wheel}
use Rattle.slot_chain.proofs.chain.Chain.turn.Goals as goal

pub enter_slot-requires-clause-can : goal.enter_slot-requires-clause-can
enter_slot-requires-clause-can g c =
    let here = c.self.inside in (
      chain_of here.base here.slots here.parts.items here.wheel.machine.program.grants,
      can_enter here.base here.slots here.parts.items here.patching.items here.wheel.machine here.wheel.programs.items here.wheel.current
          c.self.invariant.0 c.self.invariant.1 c.next_fetch-next.ensures.facts c.next_fetch-next.result c.slot_fetched-slot.result
          c.deref.result.now
          c.next_fetch-next.ensures.address c.slot_fetched-slot.ensures c.deref.ensures.value,
    )

pub invariant_of-self : goal.invariant_of-self
invariant_of-self g c =
    let here = c.self.inside in (
      turn_wheel here.base here.slots here.parts.items here.patching.items here.wheel.machine here.wheel.programs.items here.wheel.current
          c.self.invariant.0 c.self.invariant.1 c.next_fetch-next.ensures.facts c.next_fetch-next.result c.slot_fetched-slot.result
          c.deref.result.now
          c.enter_slot.new.wheel.machine c.turn.new.self c.enter_slot.new.wheel.programs.items c.enter_slot.new.wheel.current
          c.next_fetch-next.ensures.address
          c.slot_fetched-slot.ensures c.deref.ensures.value c.enter_slot.ensures c.turn.ensures.state,
      turn_patching here.base here.slots here.parts.items here.patching.items here.wheel.machine here.wheel.programs.items
          here.wheel.current
          c.self.invariant.0 c.self.invariant.1 c.next_fetch-next.ensures.facts c.next_fetch-next.result c.slot_fetched-slot.result
          c.deref.result.now
          c.enter_slot.new.wheel.machine c.turn.new.self c.enter_slot.new.wheel.programs.items c.enter_slot.new.wheel.current
          c.next_fetch-next.ensures.address
          c.slot_fetched-slot.ensures c.deref.ensures.value c.enter_slot.ensures c.turn.ensures.state,
    )

pub returns-clause-state : goal.returns-clause-state
returns-clause-state g c =
    let here = c.self.inside in
    turn_state here.base here.slots here.parts.items here.patching.items here.wheel.machine here.wheel.programs.items here.wheel.current
    c.self.invariant.0 c.self.invariant.1 c.next_fetch-next.ensures.facts c.next_fetch-next.result c.slot_fetched-slot.result
    c.deref.result.now
    c.enter_slot.new.wheel.machine c.turn.new.self c.enter_slot.new.wheel.programs.items c.enter_slot.new.wheel.current
    c.next_fetch-next.ensures.address
    c.slot_fetched-slot.ensures c.deref.ensures.value c.enter_slot.ensures c.turn.ensures.state
    ∙ ap (lived (Plain Turn)) c.self.view_is

pub returns-clause-inside : goal.returns-clause-inside
returns-clause-inside g c =
    let here = c.self.inside in
    subst (λ (s : ChainState). LiveInside s.chain s.live) c.self.view_is
    (inside here.base here.slots here.parts.items here.patching.items here.wheel.machine here.wheel.programs.items here.wheel.current
    c.self.invariant.0 c.self.invariant.1 c.next_fetch-next.ensures.facts)
