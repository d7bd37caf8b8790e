use Rattle.std.proofs.Common.{sym, subst}
use Rattle.irq_status.specs.Register.{IsKnown}
use Rattle.irq_status.proofs.Laws.{IsKnown-raised}
use Rattle.irq_status.proofs.IntStat.raise.Goals as goal

pub invariant_of-self : goal.invariant_of-self
invariant_of-self c =
    subst IsKnown (sym (c.insert.ensures tt)) (IsKnown-raised _ _ c.self.invariant c.bits.invariant)
