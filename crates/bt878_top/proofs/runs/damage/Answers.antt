use Rattle.std.proofs.Common.{[], ◌∷◌, false, subst, refl}
use Rattle.damage_law.specs.Laws.{map_after}
use Rattle.damage_map.specs.Maps.{rows_of}
use Rattle.damage_map.specs.Tracks.{track_notes}
use Rattle.command_texts.specs.DamageTexts.{damage_text}
use Rattle.command_inputs.specs.Descriptions.{a_description}
use Rattle.stream_play.specs.Plays.{HasPlayedWatched, PlaysAll, watch_act}
use Rattle.stream_play.specs.Runs.{a_stream}
use Rattle.stream_play.proofs.Watches.{watched_played}
use Rattle.bt878_top.proofs.Playing.{both_taken, second_stops, still_told, first_stops}
use Rattle.bt878_top.proofs.Products.{damage_made}
use Rattle.bt878_top.proofs.runs.damage.Goals as goal

pub returns-in_err-checked-clause-takes : goal.returns-in_err-checked-clause-takes
returns-in_err-checked-clause-takes g c =
    let see = g.D.Desk.seen in
    first_stops (a_description c.args.desc.now) (a_stream c.args.stream.now) c.from_residual.result c.in_err-checked.field-0.0
    (see c.args.desk.now) (see c.check_file.new.desk) c.from_residual.ensures.1 c.in_err-checked.ensures.takes

pub returns-in_err-map-clause-takes : goal.returns-in_err-map-clause-takes
returns-in_err-map-clause-takes g c =
    let see = g.D.Desk.seen in
    second_stops (a_description c.args.desc.now) (a_stream c.args.stream.now) c.from_residual-in_err-map.result c.in_err-map.field-0.0
    (see c.args.desk.now) (see c.check_file.new.desk) (see c.play_file.new.desk)
    c.from_residual-in_err-map.ensures.1 refl c.in_ok-checked.ensures.takes c.in_err-map.ensures.takes

pub returns-clause-takes : goal.returns-clause-takes
returns-clause-takes g c =
    let see = g.D.Desk.seen in
    both_taken (a_description c.args.desc.now) (a_stream c.args.stream.now) (see c.args.desk.now) (see c.check_file.new.desk)
    (see c.play_file.new.desk) c.in_ok-checked.ensures.takes c.in_ok-map.ensures.takes

pub returns-clause-makes : goal.returns-clause-makes
returns-clause-makes g c =
    let old = (g.D.Desk.seen c.args.desk.now).told in
    let mid = (g.D.Desk.seen c.check_file.new.desk).told in
    let d = c.in_ok-checked.checked in
    let begin = map_after d d.fill [] in
    let map = c.in_ok-map.map in
    damage_made c.args.desc c.args.stream old.inputs d map (damage_text d (λ field. rows_of field map)) c.in_ok-checked.ensures.describes
    (still_told c.args.stream.now old mid (λ bytes. PlaysAll (watch_act track_notes) false bytes c.in_ok-map_of.field-0 map)
    (λ bytes. HasPlayedWatched track_notes bytes begin map) c.in_ok-checked.ensures.takes.told
    (λ bytes p. watched_played track_notes bytes begin map
    (subst (λ w. PlaysAll (watch_act track_notes) false bytes w map) c.in_ok-map_of.ensures p)) c.in_ok-map.ensures.played)
    refl
