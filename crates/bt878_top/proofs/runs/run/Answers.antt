use Rattle.std.proofs.Common.{◌≡◌, ap, false, sym, ◌∙◌, refl}
use Rattle.machine_model.specs.States.{first_state}
use Rattle.machine_watch.specs.Watches.{Watching, no_notes}
use Rattle.dma_machine.specs.Facts.{report_of}
use Rattle.command_texts.specs.Texts.{report_text}
use Rattle.command_inputs.specs.Programs.{a_sound_program}
use Rattle.stream_play.specs.Plays.{HasPlayed, PlaysAll, watch_act}
use Rattle.stream_play.specs.Runs.{a_stream}
use Rattle.stream_play.proofs.Watches.{machine_played}
use Rattle.bt878_top.proofs.Playing.{both_taken, played_as, second_stops, still_told, first_stops}
use Rattle.bt878_top.proofs.Products.{run_made}
use Rattle.bt878_top.proofs.runs.run.Goals as goal

pub returns-in_err-accepted-clause-takes : goal.returns-in_err-accepted-clause-takes
returns-in_err-accepted-clause-takes g c =
    let see = g.D.Desk.seen in
    first_stops (a_sound_program c.args.program.now) (a_stream c.args.stream.now) c.from_residual.result c.in_err-accepted.field-0.0
    (see c.args.desk.now) (see c.accept.new.desk) c.from_residual.ensures.1 c.in_err-accepted.ensures.takes

pub returns-in_err-player-clause-takes : goal.returns-in_err-player-clause-takes
returns-in_err-player-clause-takes g c =
    let see = g.D.Desk.seen in
    second_stops (a_sound_program c.args.program.now) (a_stream c.args.stream.now) c.from_residual-in_err-player.result
    c.in_err-player.field-0.0 (see c.args.desk.now) (see c.accept.new.desk) (see c.play_and_tell.new.desk)
    c.from_residual-in_err-player.ensures.1 refl c.in_ok-accepted.ensures.takes c.in_err-player.ensures.takes

pub returns-clause-takes : goal.returns-clause-takes
returns-clause-takes g c =
    let see = g.D.Desk.seen in
    both_taken (a_sound_program c.args.program.now) (a_stream c.args.stream.now) (see c.args.desk.now) (see c.accept.new.desk)
    (see c.play_and_tell.new.desk) c.in_ok-accepted.ensures.takes c.in_ok-player.ensures.takes

pub returns-clause-makes : goal.returns-clause-makes
returns-clause-makes g c =
    let old = (g.D.Desk.seen c.args.desk.now).told in
    let mid = (g.D.Desk.seen c.accept.new.desk).told in
    let loaded = c.in_ok-accepted.field-0 in
    let first = first_state loaded.accepted loaded.fill in
    let player = c.in_ok-player.field-0.player in
    let w = c.new-machine.result in
    let m = c.into_machine.result in
    let begins : w.machine ≡ first = ap (λ (x : Watching _). x.machine) c.new-machine.ensures ∙ c.in_ok-machine_of.ensures in
    run_made c.args.program c.args.stream c.args.image old.inputs loaded.accepted loaded.fill m c.in_ok-player.field-0.text
    c.in_ok-accepted.ensures.accepts
    (still_told c.args.stream.now old mid (λ bytes. PlaysAll (watch_act no_notes) false bytes w player) (λ bytes. HasPlayed bytes first m)
    c.in_ok-accepted.ensures.takes.told (λ bytes p. played_as bytes w.machine first player.machine m begins (sym c.into_machine.ensures)
    (machine_played no_notes bytes w player p)) c.in_ok-player.ensures.played)
    (c.in_ok-player.ensures.text ∙ ap (λ s. report_text (report_of s)) (sym c.into_machine.ensures))
