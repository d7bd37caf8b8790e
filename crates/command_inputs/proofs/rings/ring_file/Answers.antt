use Rattle.std.proofs.Common.{IfErr, IfOk, subst, refl}
use Rattle.std.proofs.lemmas.Result.{IfErr-weaker}
use Rattle.capture_file.specs.declared.Input.TheVariants as file
use Rattle.command_steps.specs.Inputs.{StopsAt}
use Rattle.command_steps.proofs.Judging.{judged, not_judged}
use Rattle.command_inputs.specs.Limits.{limited_files}
use Rattle.command_inputs.specs.Rings.{HoldsRing, IsBadRing, IsRefused, IsRingFile, longest_ring, ring_files}
use Rattle.command_inputs.proofs.Judged.{good_file, of_file}
use Rattle.command_inputs.proofs.Ringed.{longer_stops, refused_stops}
use Rattle.command_inputs.proofs.rings.ring_file.Goals as goal

pub returns-in_err-bytes-clause-takes : goal.returns-in_err-bytes-clause-takes
returns-in_err-bytes-clause-takes g c =
    let name = c.args.name.now in
    let old = g.D.Desk.seen c.args.desk.now in
    let new = g.D.Desk.seen c.read_limited.new.desk in
    let refusal = c.in_err-bytes.field-0.0 in
    not_judged name (limited_files longest_ring file.Ring) ring_files c.from_residual.result refusal old new c.from_residual.ensures.1
    (longer_stops name old new refusal) c.in_err-bytes.ensures.takes

pub returns-clause-ring : goal.returns-clause-ring
returns-clause-ring g c =
    of_file c.args.name.now
    (g.D.Desk.seen c.args.desk.now).told.inputs c.in_ok-bytes.bytes.items c.in_ok-bytes.ensures.whole IsRingFile c.read_bytes.result
    (subst (λ bytes. IfOk c.read_bytes.result (IsRingFile bytes)) c.deref.ensures.value c.read_bytes.ensures.ring)

pub returns-clause-takes : goal.returns-clause-takes
returns-clause-takes g c =
    let name = c.args.name.now in
    let old = g.D.Desk.seen c.args.desk.now in
    let new = g.D.Desk.seen c.read_limited.new.desk in
    let bytes = c.in_ok-bytes.bytes.items in
    let whole = c.in_ok-bytes.ensures.whole in
    let r = c.read_bytes.result in
    judged name (limited_files longest_ring file.Ring) ring_files refl r old new
    (good_file name old.told.inputs bytes whole IsRingFile r HoldsRing (λ content ring holds. (ring, holds))
    (subst (λ bytes. IfOk r (IsRingFile bytes)) c.deref.ensures.value c.read_bytes.ensures.ring))
    (IfErr-weaker r (IsRefused bytes) (λ refusal. StopsAt IsBadRing name refusal old new) (refused_stops name old new bytes whole)
    (subst (λ bytes. IfErr r (IsRefused bytes)) c.deref.ensures.value c.read_bytes.ensures.refuses)) c.in_ok-bytes.ensures.takes
