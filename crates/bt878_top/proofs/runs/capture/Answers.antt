use Rattle.std.proofs.Common.{◌≡◌, ap, false, sym, ◌∙◌, refl}
use Rattle.machine_model.specs.States.{first_state}
use Rattle.machine_watch.specs.Watches.{Watching, no_notes}
use Rattle.dma_machine.specs.Facts.{report_of}
use Rattle.picture_model.specs.Programs.{compiled}
use Rattle.command_texts.specs.Texts.{report_text}
use Rattle.command_inputs.specs.Descriptions.{a_description}
use Rattle.stream_play.specs.Plays.{HasPlayed, PlaysAll, watch_act}
use Rattle.stream_play.specs.Runs.{a_stream}
use Rattle.stream_play.proofs.Watches.{machine_played}
use Rattle.bt878_top.proofs.Playing.{both_taken, played_as, second_stops, still_told, first_stops}
use Rattle.bt878_top.proofs.Products.{capture_made}
use Rattle.bt878_top.proofs.runs.capture.Goals as goal

pub returns-in_err-checked-clause-takes : goal.returns-in_err-checked-clause-takes
returns-in_err-checked-clause-takes g c =
    let see = g.D.Desk.seen in
    first_stops (a_description c.args.desc.now) (a_stream c.args.stream.now) c.from_residual.result c.in_err-checked.field-0.0
    (see c.args.desk.now) (see c.check_file.new.desk) c.from_residual.ensures.1 c.in_err-checked.ensures.takes

pub returns-in_err-player-clause-takes : goal.returns-in_err-player-clause-takes
returns-in_err-player-clause-takes g c =
    let see = g.D.Desk.seen in
    second_stops (a_description c.args.desc.now) (a_stream c.args.stream.now) c.from_residual-in_err-player.result c.in_err-player.field-0.0
    (see c.args.desk.now) (see c.check_file.new.desk) (see c.play_and_tell.new.desk)
    c.from_residual-in_err-player.ensures.1 refl c.in_ok-checked.ensures.takes c.in_err-player.ensures.takes

pub returns-clause-takes : goal.returns-clause-takes
returns-clause-takes g c =
    let see = g.D.Desk.seen in
    both_taken (a_description c.args.desc.now) (a_stream c.args.stream.now) (see c.args.desk.now) (see c.check_file.new.desk)
    (see c.play_and_tell.new.desk) c.in_ok-checked.ensures.takes c.in_ok-player.ensures.takes

pub returns-clause-makes : goal.returns-clause-makes
returns-clause-makes g c =
    let old = (g.D.Desk.seen c.args.desk.now).told in
    let mid = (g.D.Desk.seen c.check_file.new.desk).told in
    let d = c.in_ok-checked.checked in
    let first = first_state (compiled d) d.fill in
    let player = c.in_ok-player.field-0.player in
    let w = c.new-machine.result in
    let m = c.into_machine.result in
    let begins : w.machine ≡ first = ap (λ (x : Watching _). x.machine) c.new-machine.ensures ∙ c.in_ok-machine_of_description.ensures in
    capture_made c.args.desc c.args.stream old.inputs d c.args.program c.args.image m c.in_ok-player.field-0.text c.fill-fill.result
    c.fill-fill.ensures.value c.in_ok-checked.ensures.describes
    (still_told c.args.stream.now old mid (λ bytes. PlaysAll (watch_act no_notes) false bytes w player) (λ bytes. HasPlayed bytes first m)
    c.in_ok-checked.ensures.takes.told (λ bytes p. played_as bytes w.machine first player.machine m begins (sym c.into_machine.ensures)
    (machine_played no_notes bytes w player p)) c.in_ok-player.ensures.played)
    (c.in_ok-player.ensures.text ∙ ap (λ s. report_text (report_of s)) (sym c.into_machine.ensures))
