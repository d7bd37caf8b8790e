use Rattle.std.proofs.Common.{◌∙◌, ap, sym}
use Rattle.risc_word.specs.declared.Instr.{Instr}
use Rattle.check_model.specs.Checks.{left_by}
use Rattle.field_check.specs.Tracks.{lefts}
use Rattle.field_check.proofs.Orders.{sync_only}
use Rattle.field_check.proofs.judge.instr_why.Goals as goal

pub returns-in-Sync-clause-why : goal.returns-in-Sync-clause-why
returns-in-Sync-clause-why c =
    c.sync_why.ensures.why c.in-Sync.ctl c.in-Sync.resync
    ∙ sync_only c.args.frame.now c.args.field c.in-Sync.ctl c.in-Sync.resync c.in-Sync.code
    (lefts c.args.plan.now c.args.tracks.now) c.args.instr.now c.in-Sync.is

pub returns-in-Sync-clause-left : goal.returns-in-Sync-clause-left
returns-in-Sync-clause-left c none q =
    c.sync_why.ensures.left none c.in-Sync.ctl c.in-Sync.resync q
    ∙ ap (λ (instr : Instr). left_by instr (lefts c.args.plan.now c.args.tracks.now) q) (sym c.in-Sync.is)
