use Rattle.std.proofs.Common.{◌+◌, ℕ, ap, refl}
use Rattle.risc_asm.proofs.Searching.{begin, line_between}
use Rattle.risc_asm.proofs.search.first_wrong.Goals as goal

pub loop-end-init : goal.loop-end-init
loop-end-init c =
    begin c.args.lines.now c.line_begin-low.result c.args.begun c.requires.whole c.requires.wrong c.requires.begun
    c.line_begin-low.ensures.within c.line_begin-low.ensures.whole

pub returns : goal.returns
returns c =
    line_between c.args.lines.now c.loop-end.low c.loop-end.high (c.count_lines.result + 1) c.loop-end.invariant
    (c.in_default.ensures.none refl)
    (ap (λ (n : ℕ). n + 1) c.count_lines.ensures.value)
