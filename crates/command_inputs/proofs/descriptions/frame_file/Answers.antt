use Rattle.std.proofs.Common.{IfErr, IfOk, subst, refl}
use Rattle.std.proofs.lemmas.Result.{IfErr-weaker}
use Rattle.capture_file.specs.declared.Input.TheVariants as file
use Rattle.picture_model.specs.Geometry.{frame_fault}
use Rattle.command_steps.specs.Inputs.{StopsAt}
use Rattle.command_steps.proofs.Judging.{judged, not_judged}
use Rattle.command_inputs.specs.Chains.{HoldsFrame, IsFrameFile, frame_files}
use Rattle.command_inputs.specs.Descriptions.{IsBadDescBy, IsRefused, longest_description}
use Rattle.command_inputs.specs.Limits.{limited_files}
use Rattle.command_inputs.proofs.Judged.{good_file, of_file}
use Rattle.command_inputs.proofs.Described.{longer_stops, refused_stops}
use Rattle.command_inputs.proofs.descriptions.frame_file.Goals as goal

pub returns-in_err-bytes-clause-takes : goal.returns-in_err-bytes-clause-takes
returns-in_err-bytes-clause-takes g c =
    let name = c.args.name.now in
    let old = g.D.Desk.seen c.args.desk.now in
    let new = g.D.Desk.seen c.read_limited.new.desk in
    let refusal = c.in_err-bytes.field-0.0 in
    not_judged name (limited_files longest_description file.Desc) frame_files c.from_residual.result refusal old new
    c.from_residual.ensures.1 (longer_stops frame_fault name old new refusal)
    c.in_err-bytes.ensures.takes

pub returns-clause-describes : goal.returns-clause-describes
returns-clause-describes g c =
    of_file c.args.name.now
    (g.D.Desk.seen c.args.desk.now).told.inputs c.in_ok-bytes.bytes.items c.in_ok-bytes.ensures.whole IsFrameFile c.frame_bytes.result
    (subst (λ bytes. IfOk c.frame_bytes.result (IsFrameFile bytes)) c.deref.ensures.value c.frame_bytes.ensures.describes)

pub returns-clause-takes : goal.returns-clause-takes
returns-clause-takes g c =
    let name = c.args.name.now in
    let old = g.D.Desk.seen c.args.desk.now in
    let new = g.D.Desk.seen c.read_limited.new.desk in
    let bytes = c.in_ok-bytes.bytes.items in
    let whole = c.in_ok-bytes.ensures.whole in
    let r = c.frame_bytes.result in
    judged name (limited_files longest_description file.Desc) frame_files refl r old new
    (good_file name old.told.inputs bytes whole IsFrameFile r HoldsFrame (λ content found holds. (found, holds))
    (subst (λ bytes. IfOk r (IsFrameFile bytes)) c.deref.ensures.value c.frame_bytes.ensures.describes))
    (IfErr-weaker r (IsRefused frame_fault bytes) (λ refusal. StopsAt (IsBadDescBy frame_fault) name refusal old new)
    (refused_stops frame_fault name old new bytes whole)
    (subst (λ bytes. IfErr r (IsRefused frame_fault bytes)) c.deref.ensures.value c.frame_bytes.ensures.refuses))
    c.in_ok-bytes.ensures.takes
