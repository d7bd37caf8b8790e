use Rattle.std.proofs.Common.{◌∙◌, ℕ, ap, sym, drop}
use Rattle.field_check.specs.Cursors.{left_of}
use Rattle.field_check.proofs.Instrs.{asks_long}
use Rattle.field_check.proofs.judge.take_of.Goals as goal

pub returns-clause-left : goal.returns-clause-left
returns-clause-left c none =
    c.take_bytes.ensures.left none
    ∙ ap (λ (n : ℕ). drop n (left_of c.args.plan.now c.args.q c.args.track.now.cursor))
    (sym (asks_long c.args.q c.args.instr.now c.requires.data c.demand_of-asked.result c.demand_of-asked.ensures.value
    c.demand_of-asked.ensures.some))
