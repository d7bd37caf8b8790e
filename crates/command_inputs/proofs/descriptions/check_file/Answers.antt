use Rattle.std.proofs.Common.{IfErr, IfOk, subst, refl}
use Rattle.std.proofs.lemmas.Result.{IfErr-weaker}
use Rattle.capture_file.specs.declared.Input.TheVariants as file
use Rattle.picture_model.specs.Geometry.{first_fault}
use Rattle.command_steps.specs.Inputs.{StopsAt}
use Rattle.command_steps.proofs.Judging.{judged, not_judged}
use Rattle.command_inputs.specs.Descriptions.{Describes, HoldsValid, IsBadDescBy, IsRefused, descriptions, longest_description}
use Rattle.command_inputs.specs.Limits.{limited_files}
use Rattle.command_inputs.proofs.Judged.{good_file, of_file}
use Rattle.command_inputs.proofs.Described.{longer_stops, refused_stops}
use Rattle.command_inputs.proofs.descriptions.check_file.Goals as goal

pub returns-in_err-bytes-clause-takes : goal.returns-in_err-bytes-clause-takes
returns-in_err-bytes-clause-takes g c =
    let name = c.args.name.now in
    let old = g.D.Desk.seen c.args.desk.now in
    let new = g.D.Desk.seen c.read_limited.new.desk in
    let refusal = c.in_err-bytes.field-0.0 in
    not_judged name (limited_files longest_description file.Desc) descriptions c.from_residual.result refusal old new
    c.from_residual.ensures.1 (longer_stops first_fault name old new refusal)
    c.in_err-bytes.ensures.takes

pub returns-clause-describes : goal.returns-clause-describes
returns-clause-describes g c =
    of_file c.args.name.now
    (g.D.Desk.seen c.args.desk.now).told.inputs c.in_ok-bytes.bytes.items c.in_ok-bytes.ensures.whole Describes c.check_bytes.result
    (subst (λ bytes. IfOk c.check_bytes.result (Describes bytes)) c.deref.ensures.value c.check_bytes.ensures.describes)

pub returns-clause-takes : goal.returns-clause-takes
returns-clause-takes g c =
    let name = c.args.name.now in
    let old = g.D.Desk.seen c.args.desk.now in
    let new = g.D.Desk.seen c.read_limited.new.desk in
    let bytes = c.in_ok-bytes.bytes.items in
    let whole = c.in_ok-bytes.ensures.whole in
    let r = c.check_bytes.result in
    judged name (limited_files longest_description file.Desc) descriptions refl r old new
    (good_file name old.told.inputs bytes whole Describes r HoldsValid (λ content found holds. (found, holds))
    (subst (λ bytes. IfOk r (Describes bytes)) c.deref.ensures.value c.check_bytes.ensures.describes))
    (IfErr-weaker r (IsRefused first_fault bytes) (λ refusal. StopsAt (IsBadDescBy first_fault) name refusal old new)
    (refused_stops first_fault name old new bytes whole)
    (subst (λ bytes. IfErr r (IsRefused first_fault bytes)) c.deref.ensures.value c.check_bytes.ensures.refuses))
    c.in_ok-bytes.ensures.takes
