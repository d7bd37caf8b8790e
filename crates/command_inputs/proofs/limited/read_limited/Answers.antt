use Rattle.std.proofs.Common.{◌≡◌, ◌+◌, ◌<◌, ◌≤◌, length, refl, take, subst, arith}
use Rattle.command_steps.specs.Inputs.{raw_files}
use Rattle.command_steps.proofs.Inputs.{OfInput-map}
use Rattle.command_steps.proofs.Judging.{found_bad, found_good, not_judged, raw_stops}
use Rattle.command_inputs.specs.Limits.{IsLonger, limited_files}
use Rattle.command_inputs.proofs.UpToLimit.{is_longer, is_whole}
use Rattle.command_inputs.proofs.limited.read_limited.Goals as goal

pub returns-in_err-bytes-clause-takes : goal.returns-in_err-bytes-clause-takes
returns-in_err-bytes-clause-takes g c =
    let name = c.args.name.now in
    let old = g.D.Desk.seen c.args.desk.now in
    let new = g.D.Desk.seen c.read_whole.new.desk in
    let refusal = c.in_err-bytes.field-0.0 in
    not_judged name (raw_files c.args.most)
    (limited_files c.args.most c.args.file) c.from_residual.result refusal old new c.from_residual.ensures.1
    (raw_stops (IsLonger c.args.most c.args.file) c.args.most name refusal old new) c.in_err-bytes.ensures.takes

pub returns-then-len-most-clause-takes : goal.returns-then-len-most-clause-takes
returns-then-len-most-clause-takes g c =
    let name = c.args.name.now in
    let most = c.args.most in
    let old = g.D.Desk.seen c.args.desk.now in
    let new = g.D.Desk.seen c.read_whole.new.desk in
    let bytes = c.in_ok-bytes.bytes.items in
    let long : most < length bytes = omega (arith, c.len.ensures, c.if-len-most.true) in
    found_bad name (raw_files most) (limited_files most c.args.file) refl _ old new (
      refl,
      refl,
      OfInput-map name old.told.inputs (λ content. bytes ≡ take (most + 1) content) (λ content. most < length content)
          (λ content e. is_longer most bytes content e long) c.in_ok-bytes.ensures.bytes,
    )
    c.in_ok-bytes.ensures.takes

pub returns-clause-whole : goal.returns-clause-whole
returns-clause-whole g c =
    let bytes = c.in_ok-bytes.bytes.items in
    OfInput-map c.args.name.now (g.D.Desk.seen c.args.desk.now).told.inputs (λ content. bytes ≡ take (c.args.most + 1) content)
    (λ content. bytes ≡ content)
    (λ content e. is_whole c.args.most bytes content e (omega (arith, c.len.ensures, c.if-len-most.false))) c.in_ok-bytes.ensures.bytes

pub returns-clause-takes : goal.returns-clause-takes
returns-clause-takes g c =
    let name = c.args.name.now in
    let most = c.args.most in
    let old = g.D.Desk.seen c.args.desk.now in
    let new = g.D.Desk.seen c.read_whole.new.desk in
    let bytes = c.in_ok-bytes.bytes.items in
    let short : length bytes ≤ most = omega (arith, c.len.ensures, c.if-len-most.false) in
    found_good name (raw_files most) (limited_files most c.args.file) old new
    (OfInput-map name old.told.inputs (λ content. bytes ≡ take (most + 1) content) (λ content. length content ≤ most)
    (λ content e. subst (λ x. length x ≤ most) (is_whole most bytes content e short) short) c.in_ok-bytes.ensures.bytes)
    c.in_ok-bytes.ensures.takes
