use Rattle.std.proofs.Common.{◌∙◌, sym}
use Rattle.field_check.specs.Tracks.{lefts}
use Rattle.field_check.proofs.Orders.{first_waits, none_waits, second_waits, third_waits}
use Rattle.field_check.proofs.judge.sync_why.Goals as goal

pub returns-in-Some-clause-why : goal.returns-in-Some-clause-why
returns-in-Some-clause-why c ctl resync =
    let d = c.args.frame.now in
    let left = lefts c.args.plan.now c.args.tracks.now in
    first_waits d c.args.field ctl resync c.args.code left c.in-Some.why
    (sym c.in-Some.is ∙ c.take_awaited.ensures.why)

pub returns-in-Some-take_awaited-clause-why : goal.returns-in-Some-take_awaited-clause-why
returns-in-Some-take_awaited-clause-why c ctl resync =
    let d = c.args.frame.now in
    let left = lefts c.args.plan.now c.args.tracks.now in
    second_waits d c.args.field ctl resync c.args.code left c.in-Some-take_awaited.why
    (sym c.in_default.is ∙ c.take_awaited.ensures.why)
    (sym c.in-Some-take_awaited.is ∙ c.take_awaited-2.ensures.why)

pub returns-in-Some-take_awaited-2-clause-why : goal.returns-in-Some-take_awaited-2-clause-why
returns-in-Some-take_awaited-2-clause-why c ctl resync =
    let d = c.args.frame.now in
    let left = lefts c.args.plan.now c.args.tracks.now in
    third_waits d c.args.field ctl resync c.args.code left c.in-Some-take_awaited-2.why
    (sym c.in_default.is ∙ c.take_awaited.ensures.why)
    (sym c.in_default-take_awaited.is ∙ c.take_awaited-2.ensures.why)
    (sym c.in-Some-take_awaited-2.is ∙ c.take_awaited-3.ensures.why)

pub returns-clause-why : goal.returns-clause-why
returns-clause-why c ctl resync =
    let d = c.args.frame.now in
    let left = lefts c.args.plan.now c.args.tracks.now in
    none_waits d c.args.field ctl resync c.args.code left c.first_nothing.result
    (sym c.in_default.is ∙ c.take_awaited.ensures.why)
    (sym c.in_default-take_awaited.is ∙ c.take_awaited-2.ensures.why)
    (sym c.in_default-take_awaited-2.is ∙ c.take_awaited-3.ensures.why)
    c.first_nothing.ensures.why
