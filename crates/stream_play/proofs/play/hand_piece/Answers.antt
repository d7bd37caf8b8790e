use Rattle.std.proofs.Common.{subst}
use Rattle.std.proofs.lemmas.List.{take_rest}
use Rattle.capture_file.specs.Readers.{resumed}
use Rattle.stream_play.specs.Plays.{EndsWell}
use Rattle.stream_play.proofs.Sound.{well_piece}
use Rattle.stream_play.proofs.play.hand_piece.Goals as goal

pub returns-clause-sound : goal.returns-clause-sound
returns-clause-sound g c =
    well_piece g.P.Player.act c.args.player.now c.loop-used.player c.args.reader.now c.loop-used.reader c.args.piece.now c.loop-used.at
    c.loop-used.invariant.handed
    (subst (λ bytes. EndsWell (resumed c.loop-used.reader bytes)) (take_rest c.args.piece.now c.loop-used.at)
    (c.in_ok-used.ensures.sound c.in_default.is))
