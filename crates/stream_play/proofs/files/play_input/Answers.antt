use Rattle.std.proofs.Common.{[], ◌∷◌, false, take}
use Rattle.std.proofs.lemmas.Result.{IfErr-weaker, IfOk-weaker}
use Rattle.command_steps.specs.Inputs.{OfInput, OfRest, StopsAt}
use Rattle.command_steps.specs.Reading.{MayCome}
use Rattle.command_steps.proofs.Inputs.{OfInput-map, opened_input}
use Rattle.command_steps.proofs.Opening.{not_opened, takes_opened}
use Rattle.command_steps.proofs.Sequence.{stops_with}
use Rattle.stream_play.specs.Plays.{PlaysAll, StopsPlaying}
use Rattle.stream_play.specs.Runs.{HoldsNoFault, HoldsSteps, IsBadStream, a_stream_file}
use Rattle.stream_play.proofs.Loading.{comes_of_stream, stops_at_stream}
use Rattle.stream_play.proofs.files.play_input.Goals as goal

pub returns-in_err-open-clause-takes : goal.returns-in_err-open-clause-takes
returns-in_err-open-clause-takes g c =
    let input = a_stream_file g.P.Player.has_slots c.args.name.now in
    let old = g.D.Desk.seen c.args.desk.now in
    let new = g.D.Desk.seen c.open.new.desk in
    let refusal = c.in_err-open.field-0.0 in
    let e = c.in_err-open.ensures in
    stops_with (input ∷ []) c.from_residual.result refusal old new c.from_residual.ensures.1
    (not_opened input old (Unit {0}) refusal new e.opened e.writes e.calls)

pub returns-clause-played : goal.returns-clause-played
returns-clause-played g c =
    let old = (g.D.Desk.seen c.args.desk.now).told in
    let opened = (g.D.Desk.seen c.open.new.desk).told in
    let e = c.in_ok-open.ensures.opened in
    let P = PlaysAll g.P.Player.act g.P.Player.has_slots in
    IfOk-weaker c.play.result (λ _. OfRest opened.rest (λ bytes. P bytes c.args.player.now c.play.new.player))
    (λ _. OfInput c.args.name.now old.inputs (λ bytes. P bytes c.args.player.now c.play.new.player))
    (λ done h. opened_input c.args.name.now old opened (λ bytes. P bytes c.args.player.now c.play.new.player) e.0 e.1 h)
    c.play.ensures.played

pub returns-clause-takes : goal.returns-clause-takes
returns-clause-takes g c =
    let name = c.args.name.now in
    let has_slots = g.P.Player.has_slots in
    let old = g.D.Desk.seen c.args.desk.now in
    let mid = g.D.Desk.seen c.open.new.desk in
    let new = g.D.Desk.seen c.play.new.desk in
    let e = c.in_ok-open.ensures in
    let k = c.play.ensures in
    let P = PlaysAll g.P.Player.act has_slots in
    takes_opened (a_stream_file has_slots name) old c.in_ok-open.field-0 mid new e.opened e.writes e.quiet e.calls
    (λ at. OfRest mid.told.rest (λ bytes. HoldsNoFault has_slots (take at bytes))) (λ at h. h) k.told
    k.writes c.play.result
    (IfErr-weaker c.play.result (λ refusal. StopsPlaying has_slots mid.told.rest refusal mid new) (λ refusal. MayCome refusal false)
    (λ refusal. comes_of_stream has_slots refusal mid.told.rest mid new) k.stops)
    k.quiet k.calls k.through
    (IfOk-weaker c.play.result (λ _. OfRest mid.told.rest (λ bytes. P bytes c.args.player.now c.play.new.player))
    (λ _. OfInput name old.told.inputs (HoldsSteps has_slots))
    (λ done h.
    OfInput-map name old.told.inputs (λ bytes. P bytes c.args.player.now c.play.new.player) (HoldsSteps has_slots) (λ bytes p. (p.0, p.1))
    (opened_input name old.told mid.told (λ bytes. P bytes c.args.player.now c.play.new.player) e.opened.0 e.opened.1 h)) k.played)
    (IfErr-weaker c.play.result (λ refusal. StopsPlaying has_slots mid.told.rest refusal mid new)
    (λ refusal. StopsAt (IsBadStream has_slots) name refusal old new)
    (λ refusal. stops_at_stream has_slots refusal name old mid new e.opened.0 e.opened.1 e.quiet) k.stops)
