use Rattle.std.proofs.Common.{None, Option, ℕ, subst}
use Rattle.slot_chain.specs.Wheels.{CanEnter}
use Rattle.slot_chain.proofs.Wheels.{leave_can, leave_inside, left}
use Rattle.slot_chain.proofs.wheel.Wheel.leave.Goals as goal

pub exchange-requires-clause-inside : goal.exchange-requires-clause-inside
exchange-requires-clause-inside g c =
    leave_inside c.requires.0 c.args.self.now.machine c.args.self.now.programs.items c.in-Some.part
    (subst (λ (current : Option ℕ). CanEnter c.requires.0 None c.args.self.now.machine c.args.self.now.programs.items current) c.in-Some.is
    c.requires.1)

pub exchange-requires-clause-can : goal.exchange-requires-clause-can
exchange-requires-clause-can g c =
    leave_can c.requires.0 c.args.self.now.machine c.args.self.now.programs.items c.in-Some.part
    (subst (λ (current : Option ℕ). CanEnter c.requires.0 None c.args.self.now.machine c.args.self.now.programs.items current) c.in-Some.is
    c.requires.1)

pub returns-in-Some : goal.returns-in-Some
returns-in-Some g c chain can =
    left chain c.args.self.now.machine c.args.self.now.programs.items c.in-Some.part c.exchange.new.self.machine
    c.exchange.new.self.programs.items
    (subst (λ (current : Option ℕ). CanEnter chain None c.args.self.now.machine c.args.self.now.programs.items current) c.in-Some.is can)
    c.exchange.ensures.machine c.exchange.ensures.programs
