use Rattle.std.proofs.Common.{◌≡◌, arith}
use Rattle.stream_play.proofs.Playing.{fault_after, handed_after}
use Rattle.stream_play.proofs.Sound.{well_after}
use Rattle.stream_play.proofs.play.hand_front.Goals as goal

pub returns-else-run-gt0-clause-handed : goal.returns-else-run-gt0-clause-handed
returns-else-run-gt0-clause-handed g c =
    let none : c.hand_run-run.result ≡ 0 = omega (arith, c.if-run-gt0.false) in
    handed_after g.P.Player.act c.args.player.now c.hand_run-run.new.player c.hand_record.new.player c.args.reader.now
    c.hand_run-run.new.reader c.hand_record.new.reader c.args.piece.now c.hand_run-run.result none
    c.hand_run-run.ensures.handed c.hand_record.result c.hand_record.ensures.handed

pub returns-else-run-gt0-clause-fault : goal.returns-else-run-gt0-clause-fault
returns-else-run-gt0-clause-fault g c =
    let none : c.hand_run-run.result ≡ 0 = omega (arith, c.if-run-gt0.false) in
    fault_after g.P.Player.act c.args.player.now c.hand_run-run.new.player c.hand_record.new.player c.args.reader.now
    c.hand_run-run.new.reader c.hand_record.new.reader c.args.piece.now c.hand_run-run.result none
    c.hand_run-run.ensures.handed c.hand_record.result c.hand_record.ensures.fault

pub returns-else-run-gt0-clause-sound : goal.returns-else-run-gt0-clause-sound
returns-else-run-gt0-clause-sound g c =
    let none : c.hand_run-run.result ≡ 0 = omega (arith, c.if-run-gt0.false) in
    well_after g.P.Player.act c.args.player.now c.hand_run-run.new.player c.args.reader.now c.hand_run-run.new.reader c.args.piece.now
    c.hand_run-run.result none
    c.hand_run-run.ensures.handed c.hand_record.result c.hand_record.ensures.sound
