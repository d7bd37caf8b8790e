use Rattle.std.proofs.Common.{sym, subst}
use Rattle.dma_machine.specs.Facts.{IsMachine}
use Rattle.dma_machine.proofs.Machines.{IsMachine-CanWork}
use Rattle.dma_machine.proofs.PlainRoom.{plain_leave}
use Rattle.dma_machine.proofs.Machine.push_plain.Goals as goal

pub push_plain-requires-clause-can : goal.push_plain-requires-clause-can
push_plain-requires-clause-can g c = IsMachine-CanWork _ c.self.invariant.0

pub invariant_of-self : goal.invariant_of-self
invariant_of-self g c =
    let some = c.requires.plain in (
      subst IsMachine (sym (c.push_plain.ensures.state some.0 some.1)) (plain_leave c.args.q some.0 _ c.self.invariant.0),
      c.push_plain.ensures.stands,
    )

pub returns-clause-facts : goal.returns-clause-facts
returns-clause-facts g c =
    let some = c.requires.plain in
    subst IsMachine (sym (c.push_plain.ensures.state some.0 some.1)) (plain_leave c.args.q some.0 _ c.self.invariant.0)
