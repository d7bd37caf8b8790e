use Rattle.std.proofs.Common.{Option, Some, ℕ, subst}
use Rattle.slot_chain.specs.Wheels.{CanEnter}
use Rattle.slot_chain.proofs.Wheels.{bring_can, bring_inside, brought}
use Rattle.slot_chain.proofs.wheel.Wheel.bring.Goals as goal

pub exchange-requires-clause-inside : goal.exchange-requires-clause-inside
exchange-requires-clause-inside g c =
    bring_inside c.requires.can.0 c.args.self.now.machine c.args.self.now.programs.items c.args.part
    (subst (λ (current : Option ℕ). CanEnter c.requires.can.0
    (Some c.args.part) c.args.self.now.machine c.args.self.now.programs.items current) c.requires.none c.requires.can.1)

pub exchange-requires-clause-can : goal.exchange-requires-clause-can
exchange-requires-clause-can g c =
    bring_can c.requires.can.0 c.args.self.now.machine c.args.self.now.programs.items c.args.part
    (subst (λ (current : Option ℕ). CanEnter c.requires.can.0
    (Some c.args.part) c.args.self.now.machine c.args.self.now.programs.items current) c.requires.none c.requires.can.1)

pub returns : goal.returns
returns g c chain can =
    brought chain c.args.self.now.machine c.args.self.now.programs.items c.args.part c.exchange.new.self.machine
    c.exchange.new.self.programs.items
    (subst (λ (current : Option ℕ). CanEnter chain (Some c.args.part) c.args.self.now.machine c.args.self.now.programs.items current)
    c.requires.none can)
    c.exchange.ensures.machine c.exchange.ensures.programs
