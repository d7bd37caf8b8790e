use Rattle.std.proofs.Common.{Option, ℕ, subst}
use Rattle.slot_chain.specs.Wheels.{CanEnter}
use Rattle.slot_chain.proofs.Wheels.{home_can, then_can}
use Rattle.slot_chain.proofs.wheel.Wheel.enter.Goals as goal

pub bring-requires-clause-can : goal.bring-requires-clause-can
bring-requires-clause-can g c =
    let chain = c.requires.0 in
    let can = c.requires.1 in
    let home = home_can chain c.args.part c.args.self.now.machine c.args.self.now.programs.items c.args.self.now.current can in (
      chain,
      subst (λ (part : Option ℕ). CanEnter chain part c.leave.new.self.machine c.leave.new.self.programs.items c.leave.new.self.current)
          c.in-Some.is
          (then_can chain c.args.part c.args.self.now.machine c.leave.new.self.machine c.args.self.now.programs.items
          c.leave.new.self.programs.items
          c.args.self.now.current c.leave.new.self.current can (c.leave.ensures chain home)),
    )
