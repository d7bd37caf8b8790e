use Rattle.std.proofs.Common.{sym, subst}
use Rattle.irq_status.specs.Register.{IsKnown}
use Rattle.irq_status.proofs.Laws.{IsKnown-acknowledged}
use Rattle.irq_status.proofs.IntStat.ack.Goals as goal

pub invariant_of-self : goal.invariant_of-self
invariant_of-self c =
    subst IsKnown (sym (c.remove.ensures tt)) (IsKnown-acknowledged _ c.args.mask c.self.invariant)
