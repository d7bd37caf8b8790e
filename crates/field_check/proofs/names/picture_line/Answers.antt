use Rattle.std.proofs.Common.{◌∙◌, ap, arith}
use Rattle.check_model.specs.declared.Line.TheVariants.{Row}
use Rattle.field_check.proofs.Numbers.{no_row_at, row_at, skipped_at}
use Rattle.field_check.proofs.names.picture_line.Goals as goal

pub returns-then-number-skipped : goal.returns-then-number-skipped
returns-then-number-skipped c =
    skipped_at c.args.frame.now c.desc-desc.result.now c.desc-desc.ensures.value c.args.field c.args.number c.from-skipped.result
    c.from-skipped.ensures c.if-number-skipped.true

pub returns-then-row-from : goal.returns-then-row-from
returns-then-row-from c =
    ap Row c.picture_row.ensures
    ∙ row_at c.args.frame.now c.desc-desc.result.now c.desc-desc.ensures.value c.args.field c.args.number c.from-skipped.result
    c.from-skipped.ensures c.if-number-skipped.false
    (omega (arith, c.if-row-from.true, c.from.ensures, c.field_height.ensures))

pub returns-else-row-from : goal.returns-else-row-from
returns-else-row-from c =
    no_row_at c.args.frame.now c.desc-desc.result.now c.desc-desc.ensures.value c.args.field c.args.number c.from-skipped.result
    c.from-skipped.ensures c.if-number-skipped.false
    (omega (arith, c.if-row-from.false, c.from.ensures, c.field_height.ensures))
