use Rattle.std.proofs.Common.{[], ◌∷◌, true, refl}
use Rattle.command_steps.specs.Inputs.{Always, a_raw}
use Rattle.command_steps.proofs.Sequence.{stops_with}
use Rattle.command_steps.proofs.Taking.{always_read}
use Rattle.command_steps.proofs.Opening.{all_may_come, not_opened, raw_is_there, stops_at_rest, takes_opened}
use Rattle.command_steps.proofs.read.read_pieces.Goals as goal

pub returns-in_err-open-clause-takes : goal.returns-in_err-open-clause-takes
returns-in_err-open-clause-takes g c =
    let see = g.D.Desk.seen in
    let input = a_raw c.args.name.now c.args.most in
    let e = c.in_err-open.ensures in
    stops_with (input ∷ []) c.from_residual.result c.in_err-open.field-0.0 (see c.args.desk.now)
    (see c.open.new.desk) c.from_residual.ensures.1
    (not_opened input (see c.args.desk.now) (Unit {0}) c.in_err-open.field-0.0 (see c.open.new.desk) e.opened e.writes e.calls)

pub returns-clause-takes : goal.returns-clause-takes
returns-clause-takes g c =
    let see = g.D.Desk.seen in
    let e = c.in_ok-open.ensures in
    let k = c.keep_opened.ensures in
    takes_opened (a_raw c.args.name.now c.args.most) (see c.args.desk.now) c.in_ok-open.field-0 (see c.open.new.desk)
    (see c.keep_opened.new.desk) e.opened e.writes e.quiet e.calls
    (λ at. Always []) (λ at h. always_read (see c.open.new.desk).told.rest at) k.told k.writes c.keep_opened.result
    (all_may_come c.keep_opened.result true refl) k.quiet k.calls k.through
    (raw_is_there c.keep_opened.result c.args.name.now (see c.args.desk.now).told (see c.open.new.desk).told e.opened.0 e.opened.1)
    (stops_at_rest (a_raw c.args.name.now c.args.most) (see c.args.desk.now) c.keep_opened.result (see c.open.new.desk)
    (see c.keep_opened.new.desk) e.quiet k.stops)
