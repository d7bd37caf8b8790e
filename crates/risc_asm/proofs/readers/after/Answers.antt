use Rattle.std.proofs.Common.{◌≡◌, ◌∙◌, ap, arith, length, take}
use Rattle.std.proofs.lemmas.List.{take_all, take_rest}
use Rattle.risc_asm.proofs.Names.{name_read, other_byte}
use Rattle.risc_asm.proofs.readers.after.Goals as goal

pub returns-then-text-at-clause-value : goal.returns-then-text-at-clause-value
returns-then-text-at-clause-value c = other_byte c.args.name.now c.args.text.now c.loop-at.at c.loop-at-test.true c.if-text-at.true

pub returns-clause-value : goal.returns-clause-value
returns-clause-value c =
    let known = c.loop-at.invariant in
    let within = known.within in
    let end : length c.args.name.now ≡ c.loop-at.at = omega (arith, within, c.loop-at-test.false) in
    name_read c.args.name.now c.args.text.now _
    (ap (λ n. take n c.args.text.now) end ∙ known.same ∙ take_all c.loop-at.at c.args.name.now (omega (arith, end)))
    (take_rest c.args.text.now (length c.args.name.now))
