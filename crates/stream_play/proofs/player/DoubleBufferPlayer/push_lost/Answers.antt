use Rattle.std.proofs.Common.{◌∙◌}
use Rattle.stream_play.proofs.LostPushes.{pushes_lived, same_counts}
use Rattle.stream_play.proofs.player.DoubleBufferPlayer.push_lost.Goals as goal

pub push_lost-requires-clause-counted : goal.push_lost-requires-clause-counted
push_lost-requires-clause-counted g c =
    let some = c.requires.counted in (some.0, same_counts some.0 ∙ some.1)

pub returns : goal.returns
returns g c = λ entries is. pushes_lived entries c.args.self.now c.push_lost.new.self (c.push_lost.ensures entries (same_counts entries ∙ is))
