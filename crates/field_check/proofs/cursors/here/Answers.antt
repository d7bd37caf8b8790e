use Rattle.std.proofs.Common.{arith}
use Rattle.field_check.proofs.Parts.{sync_here, data_here, data_gone}
use Rattle.field_check.proofs.cursors.here.Goals as goal

pub returns-then-done-eq0 : goal.returns-then-done-eq0
returns-then-done-eq0 c =
    sync_here c.args.instr.now c.in-Sync.ctl c.in-Sync.resync c.in-Sync.code c.args.q c.args.done c.in-Sync.is c.if-done-eq0.true

pub returns-then-done-d : goal.returns-then-done-d
returns-then-done-d c =
    data_here c.args.q c.args.instr.now c.in_default.not-Sync c.demand_of-d.result c.demand_of-d.ensures.value c.demand_of-d.ensures.some
    c.args.done c.rest_of.result (omega arith) c.if-done-d.true c.rest_of.ensures

pub returns-else-done-d : goal.returns-else-done-d
returns-else-done-d c =
    data_gone c.args.q c.args.instr.now c.in_default.not-Sync c.demand_of-d.result c.demand_of-d.ensures.value c.demand_of-d.ensures.some
    c.args.done c.requires c.if-done-d.false
