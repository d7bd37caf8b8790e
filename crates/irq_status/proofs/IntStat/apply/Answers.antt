use Rattle.std.proofs.Common.{◌≡◌, ◌∙◌, sym, ap, subst, true, false}
use Rattle.std.specs.Int.Bits.{or_zero_r}
use Rattle.irq_status.specs.Register.{IsKnown, applied}
use Rattle.irq_status.proofs.Laws.{IsKnown-applied, applied_by}
use Rattle.irq_status.proofs.IntStat.apply.Goals as goal

with_irq : (c : goal.After-insert-then-ctl) → c.insert-then-ctl.new.self.0 ≡ applied c.args.ctl c.self.inside.bits.0
with_irq c =
    c.insert-then-ctl.ensures tt
    ∙ applied_by c.args.ctl true _ _ _ _ _ c.requires.set c.requires.reset c.if-ctl.true c.from-2.ensures c.from.ensures
    (c.remove.ensures tt) (c.insert.ensures tt)

without_irq : (c : goal.Else-ctl) → c.insert.new.self.0 ≡ applied c.args.ctl c.self.inside.bits.0
without_irq c =
    sym (or_zero_r c.insert.new.self.0)
    ∙ applied_by c.args.ctl false _ _ _ _ _ c.requires.set c.requires.reset c.if-ctl.false c.from-2.ensures c.from.ensures
    (c.remove.ensures tt) (c.insert.ensures tt)

pub returns-then-ctl : goal.returns-then-ctl
returns-then-ctl c = with_irq c ∙ ap (applied c.args.ctl) c.self.view_is

pub invariant_of-self : goal.invariant_of-self
invariant_of-self c =
    subst IsKnown (sym (with_irq c)) (IsKnown-applied c.args.ctl _ c.requires.set c.requires.reset c.self.invariant)

pub returns-else-ctl : goal.returns-else-ctl
returns-else-ctl c = without_irq c ∙ ap (applied c.args.ctl) c.self.view_is

pub invariant_of-self-else-ctl : goal.invariant_of-self-else-ctl
invariant_of-self-else-ctl c =
    subst IsKnown (sym (without_irq c)) (IsKnown-applied c.args.ctl _ c.requires.set c.requires.reset c.self.invariant)
