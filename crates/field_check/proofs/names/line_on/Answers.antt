use Rattle.std.proofs.Common.{◌∙◌, arith, rules}
use Rattle.field_check.proofs.Numbers.{picture_at, skipped_vbi_at, vbi_at}
use Rattle.field_check.proofs.names.line_on.Goals as goal

pub returns-then-number-skipped : goal.returns-then-number-skipped
returns-then-number-skipped c =
    skipped_vbi_at c.args.frame.now c.desc-desc.result.now c.desc-desc.ensures.value c.args.field c.args.q
    (search rules) c.args.number c.from-skipped.result c.from-lines.result
    (c.from-skipped.ensures ∙ c.vbi_skip.ensures) c.from-lines.ensures
    (omega (arith, c.if-desc-eq0.false, c.from-lines.ensures)) c.if-number-skipped.true

pub returns-then-number-skipped-2 : goal.returns-then-number-skipped-2
returns-then-number-skipped-2 c =
    vbi_at c.args.frame.now c.desc-desc.result.now c.desc-desc.ensures.value c.args.field c.args.q
    (search rules) c.args.number c.from-skipped.result c.from-lines.result
    (c.from-skipped.ensures ∙ c.vbi_skip.ensures) c.from-lines.ensures
    (omega (arith, c.if-desc-eq0.false, c.from-lines.ensures)) c.if-number-skipped.false c.if-number-skipped-2.true

pub returns-else-number-skipped-2 : goal.returns-else-number-skipped-2
returns-else-number-skipped-2 c =
    c.picture_line-else-number-skipped-2.ensures
    ∙ picture_at c.args.frame.now c.desc-desc.result.now c.desc-desc.ensures.value c.args.field c.args.q
    (search rules) c.args.number c.from-skipped.result c.from-lines.result
    (c.from-skipped.ensures ∙ c.vbi_skip.ensures) c.from-lines.ensures
    (omega (arith, c.if-desc-eq0.false, c.from-lines.ensures)) c.if-number-skipped.false c.if-number-skipped-2.false
