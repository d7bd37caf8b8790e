use Rattle.std.proofs.Common.{◌+◌, drop, All, sym, subst}
use Rattle.std.proofs.lemmas.Result.{err_from_is_err_and}
use Rattle.capture_desk.specs.declared.desk.Failed.{Failed}
use Rattle.capture_desk.specs.Desks.{IsAllowed, Told}
use Rattle.command_steps.specs.Outputs.{files_of}
use Rattle.command_steps.proofs.Delivering.{IsUnderWay, left_is, not_written_calls, of_later, of_next, none_left, one_written, said_calls}
use Rattle.command_steps.proofs.outputs.deliver.Goals as goal

pub write_output-requires : goal.write_output-requires
write_output-requires g c =
    of_next g.C.Content.bytes c.args.outputs.now c.loop-output.output-index c.output-item.result c.loop-output-test.true c.output-item.is
    (λ output. IsAllowed output.name.now (g.D.Desk.seen c.loop-output.desk).told.may_create) c.loop-output.invariant.allowed

pub returns-in_err-write_output-clause-calls : goal.returns-in_err-write_output-clause-calls
returns-in_err-write_output-clause-calls g c =
    let p = err_from_is_err_and c.from_residual.result c.from_residual.ensures.1 in
    let see = g.D.Desk.seen in
    let bytes = g.C.Content.bytes in
    let output = c.output-item.result in
    let i = c.loop-output.output-index in
    let left = left_is bytes c.args.outputs.now i output c.loop-output-test.true c.output-item.is in
    rw p.1
    (not_written_calls (Unit {0}) Failed c.in_err-write_output.field-0.0 (files_of bytes c.args.outputs.now)
    (files_of bytes (drop (i + 1) c.args.outputs.now)) output.name.now (bytes output.content)
    (see c.args.desk.now) (see c.loop-output.desk) (see c.write_output.new.desk)
    (subst (λ files. IsUnderWay (files_of bytes c.args.outputs.now) files (see c.args.desk.now) (see c.loop-output.desk)) left
    c.loop-output.invariant.under_way) c.in_err-write_output.ensures.calls)

pub loop-output-preserved : goal.loop-output-preserved
loop-output-preserved g c =
    let see = g.D.Desk.seen in
    let bytes = g.C.Content.bytes in
    let output = c.output-item.result in
    let i = c.loop-output.output-index in
    let e = c.in_ok-write_output.ensures in
    let left = left_is bytes c.args.outputs.now i output c.loop-output-test.true c.output-item.is in
    record {
      allowed =
          subst (λ (t : Told). All (λ output. IsAllowed output.name.now t.may_create) (drop (i + 1) c.args.outputs.now)) (sym e.left)
          (of_later bytes c.args.outputs.now i output c.loop-output-test.true c.output-item.is
          (λ output. IsAllowed output.name.now (g.D.Desk.seen c.loop-output.desk).told.may_create) c.loop-output.invariant.allowed);
      under_way =
          one_written (Unit {0}) Failed c.in_ok-write_output.field-0 (files_of bytes c.args.outputs.now)
          (files_of bytes (drop (i + 1) c.args.outputs.now)) output.name.now (bytes output.content)
          (see c.args.desk.now) (see c.loop-output.desk) (see c.write_output.new.desk)
          (subst (λ files. IsUnderWay (files_of bytes c.args.outputs.now) files (see c.args.desk.now) (see c.loop-output.desk)) left
          c.loop-output.invariant.under_way) e.left e.counts e.calls;
    }

pub returns-clause-calls : goal.returns-clause-calls
returns-clause-calls g c =
    let see = g.D.Desk.seen in
    let files = files_of g.C.Content.bytes c.args.outputs.now in
    said_calls (Unit {0}) Failed c.say_all.result files c.args.text.now c.as_bytes.result.now (see c.args.desk.now) (see c.loop-output.desk)
    (see c.say_all.new.desk)
    (subst (λ left. IsUnderWay files left (see c.args.desk.now) (see c.loop-output.desk))
    (none_left g.C.Content.bytes c.args.outputs.now c.loop-output.output-index c.loop-output-test.false) c.loop-output.invariant.under_way)
    c.as_bytes.ensures.value c.say_all.ensures.counts
