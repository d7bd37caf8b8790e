use Rattle.std.proofs.Common.{refl}
use Rattle.std.proofs.lemmas.Result.{IfErr-weaker}
use Rattle.command_steps.specs.Inputs.{StopsAt}
use Rattle.command_steps.proofs.Judging.{judged, not_judged}
use Rattle.command_inputs.specs.Chains.{IsBadWith, IsRefusedPair, frame_files, second_with}
use Rattle.command_inputs.proofs.Pairing.{frame_stops, holds_pair, pair_stops, paired}
use Rattle.command_inputs.proofs.chains.buffer_file.Goals as goal

pub returns-in_err-second-clause-takes : goal.returns-in_err-second-clause-takes
returns-in_err-second-clause-takes g c =
    let name = c.args.name.now in
    let first = c.args.first.now in
    let old = g.D.Desk.seen c.args.desk.now in
    let new = g.D.Desk.seen c.frame_file.new.desk in
    let refusal = c.in_err-second.field-0.0 in
    not_judged name frame_files (second_with first) c.from_residual.result refusal old new c.from_residual.ensures.1
    (frame_stops first name old new refusal) c.in_err-second.ensures.takes

pub returns-clause-pairs : goal.returns-clause-pairs
returns-clause-pairs g c =
    let old = g.D.Desk.seen c.args.desk.now in
    paired c.args.first.now c.args.name.now old old c.in_ok-second.second c.in_ok-second.ensures.describes c.pair.result
    c.pair.ensures.first c.pair.ensures.pair

pub returns-clause-takes : goal.returns-clause-takes
returns-clause-takes g c =
    let name = c.args.name.now in
    let first = c.args.first.now in
    let second = c.in_ok-second.second in
    let reads = c.in_ok-second.ensures.describes in
    let old = g.D.Desk.seen c.args.desk.now in
    let new = g.D.Desk.seen c.frame_file.new.desk in
    let r = c.pair.result in
    judged name frame_files (second_with first) refl r old new (holds_pair first name old new second reads r c.pair.ensures.pair)
    (IfErr-weaker r (IsRefusedPair first second) (λ refusal. StopsAt (IsBadWith first) name refusal old new)
    (pair_stops first name old new second reads) c.pair.ensures.refused) c.in_ok-second.ensures.takes
