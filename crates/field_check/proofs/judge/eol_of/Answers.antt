use Rattle.std.proofs.Common.{◌∙◌, ◌<◌, ap, arith}
use Rattle.risc_word.specs.declared.Ends.{Ends}
use Rattle.check_model.specs.Checks.{eol_by, goes_on, reach_at}
use Rattle.check_model.specs.Lines.{last_spot}
use Rattle.field_check.specs.Cursors.{left_of}
use Rattle.field_check.proofs.Instrs.{asks_some, eol_is}
use Rattle.field_check.proofs.judge.eol_of.Goals as goal

pub returns-else-demand_of-eq0-clause-why : goal.returns-else-demand_of-eq0-clause-why
returns-else-demand_of-eq0-clause-why c =
    let some : 0 < c.demand_of.result.rest = omega (arith, c.if-demand_of-eq0.false) in
    c.eol_why.ensures.why
    ∙ ap (λ (ends : Ends). eol_by ends.eol (goes_on (left_of c.args.plan.now c.args.q c.args.track.now.cursor))
    (last_spot c.args.q c.args.frame.now c.args.field
    (reach_at c.args.q c.args.frame.now c.args.field (left_of c.args.plan.now c.args.q c.args.track.now.cursor))) c.args.q c.args.frame.now)
    c.ends.ensures
    ∙ eol_is c.args.frame.now c.args.field c.args.q c.args.instr.now _ c.requires.data
    (asks_some c.args.q c.args.instr.now c.requires.data c.demand_of.result c.demand_of.ensures.value some)
