use Rattle.std.proofs.Common.{false, subst, refl}
use Rattle.machine_model.specs.States.{first_state}
use Rattle.machine_watch.specs.Watches.{watching}
use Rattle.ring_model.specs.Rings.{ring_program}
use Rattle.ring_machine.specs.States.{block_notes}
use Rattle.command_inputs.specs.Rings.{a_ring}
use Rattle.stream_play.specs.Plays.{PlaysAll, watch_act}
use Rattle.stream_play.specs.Runs.{HasPlayedRing, a_stream}
use Rattle.stream_play.proofs.Rings.{ring_played}
use Rattle.stream_play.proofs.Watches.{watched_played}
use Rattle.bt878_top.proofs.Playing.{both_taken, second_stops, still_told, first_stops}
use Rattle.bt878_top.proofs.Products.{ring_made}
use Rattle.bt878_top.proofs.runs.ring.Goals as goal

pub returns-in_err-ring-clause-takes : goal.returns-in_err-ring-clause-takes
returns-in_err-ring-clause-takes g c =
    let see = g.D.Desk.seen in
    first_stops (a_ring c.args.ring.now) (a_stream c.args.stream.now) c.from_residual.result c.in_err-ring.field-0.0 (see c.args.desk.now)
    (see c.ring_file.new.desk) c.from_residual.ensures.1 c.in_err-ring.ensures.takes

pub returns-in_err-player-clause-takes : goal.returns-in_err-player-clause-takes
returns-in_err-player-clause-takes g c =
    let see = g.D.Desk.seen in
    second_stops (a_ring c.args.ring.now) (a_stream c.args.stream.now) c.from_residual-in_err-player.result c.in_err-player.field-0.0
    (see c.args.desk.now) (see c.ring_file.new.desk) (see c.play_and_tell.new.desk)
    c.from_residual-in_err-player.ensures.1 refl c.in_ok-ring.ensures.takes c.in_err-player.ensures.takes

pub returns-clause-takes : goal.returns-clause-takes
returns-clause-takes g c =
    let see = g.D.Desk.seen in
    both_taken (a_ring c.args.ring.now) (a_stream c.args.stream.now) (see c.args.desk.now) (see c.ring_file.new.desk)
    (see c.play_and_tell.new.desk) c.in_ok-ring.ensures.takes c.in_ok-player.ensures.takes

pub returns-clause-makes : goal.returns-clause-makes
returns-clause-makes g c =
    let old = (g.D.Desk.seen c.args.desk.now).told in
    let mid = (g.D.Desk.seen c.ring_file.new.desk).told in
    let ring = c.in_ok-ring.ring in
    let first = first_state (ring_program ring) ring.fill in
    let begin = watching first (record { ring = ring; blocks = 0 }) in
    let player = c.in_ok-player.field-0.player in
    let machine = c.in_ok-machine.machine in
    let m = c.into_machine.result in
    ring_made c.args.ring c.args.stream c.args.program c.args.image old.inputs ring player m c.in_ok-player.field-0.text c.fill-fill.result
    c.fill-fill.ensures.value c.into_machine.ensures c.in_ok-ring.ensures.ring
    (still_told c.args.stream.now old mid (λ bytes. PlaysAll (watch_act block_notes) false bytes machine player)
    (λ bytes. HasPlayedRing bytes ring first player) c.in_ok-ring.ensures.takes.told
    (λ bytes p. ring_played bytes ring player c.in_ok-machine.ensures.ring (watched_played block_notes bytes begin player
    (subst (λ w. PlaysAll (watch_act block_notes) false bytes w player) c.in_ok-machine.ensures.first p))) c.in_ok-player.ensures.played)
    c.in_ok-player.ensures.text
