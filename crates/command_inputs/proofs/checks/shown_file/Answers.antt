use Rattle.std.proofs.Common.{true, refl}
use Rattle.std.proofs.lemmas.Result.{IfErr-weaker, IfOk-weaker}
use Rattle.command_steps.specs.Inputs.{OfInput, StopsAt}
use Rattle.command_steps.proofs.Judging.{judged, not_judged}
use Rattle.command_inputs.specs.Chains.{frame_files}
use Rattle.command_inputs.specs.Checked.{Finds, FindsIn, HoldsShown, IsBadFor, IsRefusedBy, shown_with}
use Rattle.command_inputs.proofs.Showing.{differing_stops, found, frame_stops, holds_shown}
use Rattle.command_inputs.proofs.checks.shown_file.Goals as goal

pub returns-in_err-frame-clause-takes : goal.returns-in_err-frame-clause-takes
returns-in_err-frame-clause-takes g c =
    let name = c.args.name.now in
    let program = c.args.program.now in
    let old = g.D.Desk.seen c.args.desk.now in
    let new = g.D.Desk.seen c.frame_file.new.desk in
    let refusal = c.in_err-frame.field-0.0 in
    not_judged name frame_files (shown_with program) c.from_residual.result refusal old new c.from_residual.ensures.1
    (frame_stops program name old new refusal) c.in_err-frame.ensures.takes

pub returns-clause-shown : goal.returns-clause-shown
returns-clause-shown g c =
    let name = c.args.name.now in
    let program = c.args.program.now in
    let d = c.in_ok-frame.frame in
    let old = g.D.Desk.seen c.args.desk.now in
    IfOk-weaker c.judge.result (Finds program d true) (λ text. OfInput name old.told.inputs (λ bytes. FindsIn program bytes true text))
    (found program name old old d c.in_ok-frame.ensures.describes true) c.judge.ensures.shown

pub returns-clause-takes : goal.returns-clause-takes
returns-clause-takes g c =
    let name = c.args.name.now in
    let program = c.args.program.now in
    let d = c.in_ok-frame.frame in
    let reads = c.in_ok-frame.ensures.describes in
    let old = g.D.Desk.seen c.args.desk.now in
    let new = g.D.Desk.seen c.frame_file.new.desk in
    let r = c.judge.result in
    judged name frame_files (shown_with program) refl r old new
    (IfOk-weaker r (Finds program d true) (λ _. OfInput name old.told.inputs (HoldsShown program))
    (holds_shown program name old new d reads) c.judge.ensures.shown)
    (IfErr-weaker r (IsRefusedBy program d) (λ refusal. StopsAt (IsBadFor program) name refusal old new)
    (differing_stops program name old new d reads) c.judge.ensures.refused) c.in_ok-frame.ensures.takes
