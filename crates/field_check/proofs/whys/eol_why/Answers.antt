use Rattle.std.proofs.Common.{◌∙◌, ap, sym, Bool}
use Rattle.check_model.specs.Checks.{eol_by, reach_at}
use Rattle.check_model.specs.Lines.{last_spot}
use Rattle.field_check.specs.Cursors.{left_of}
use Rattle.field_check.proofs.Spots.{early_eol, late_eol, reach_is, right_eol}
use Rattle.field_check.proofs.whys.eol_why.Goals as goal

pub returns-then-eol-clause-why : goal.returns-then-eol-clause-why
returns-then-eol-clause-why c =
    early_eol _ c.last_spot-line.result (c.last_spot-line.ensures ∙ ap (last_spot c.args.q c.args.frame.now c.args.field)
    (sym (reach_is c.args.frame.now c.args.field c.args.plan.now c.args.q c.args.track.now c.requires)))
    c.args.q c.args.frame.now c.args.eol c.goes_on.result c.line_bytes-bytes.result c.if-eol-goes_on.true c.if-eol.true
    c.line_bytes-bytes.ensures
    ∙ ap (λ (goes : Bool). eol_by c.args.eol goes (last_spot c.args.q c.args.frame.now c.args.field
    (reach_at c.args.q c.args.frame.now c.args.field (left_of c.args.plan.now c.args.q c.args.track.now.cursor))) c.args.q c.args.frame.now)
    c.goes_on.ensures.value

pub returns-else-eol-clause-why : goal.returns-else-eol-clause-why
returns-else-eol-clause-why c =
    late_eol _ c.last_spot-line.result (c.last_spot-line.ensures ∙ ap (last_spot c.args.q c.args.frame.now c.args.field)
    (sym (reach_is c.args.frame.now c.args.field c.args.plan.now c.args.q c.args.track.now c.requires)))
    c.args.q c.args.frame.now c.args.eol c.goes_on.result c.if-eol-goes_on.true c.if-eol.false
    ∙ ap (λ (goes : Bool). eol_by c.args.eol goes (last_spot c.args.q c.args.frame.now c.args.field
    (reach_at c.args.q c.args.frame.now c.args.field (left_of c.args.plan.now c.args.q c.args.track.now.cursor))) c.args.q c.args.frame.now)
    c.goes_on.ensures.value

pub returns-else-eol-goes_on-clause-why : goal.returns-else-eol-goes_on-clause-why
returns-else-eol-goes_on-clause-why c =
    right_eol (last_spot c.args.q c.args.frame.now c.args.field
    (reach_at c.args.q c.args.frame.now c.args.field (left_of c.args.plan.now c.args.q c.args.track.now.cursor))) c.args.q c.args.frame.now
    c.args.eol c.goes_on.result c.if-eol-goes_on.false
    ∙ ap (λ (goes : Bool). eol_by c.args.eol goes (last_spot c.args.q c.args.frame.now c.args.field
    (reach_at c.args.q c.args.frame.now c.args.field (left_of c.args.plan.now c.args.q c.args.track.now.cursor))) c.args.q c.args.frame.now)
    c.goes_on.ensures.value
