use Rattle.std.proofs.Common.{◌∙◌}
use Rattle.stream_play.proofs.LostPushes.{pushes_watched, same_counts}
use Rattle.stream_play.proofs.player.WatchedPlayer.push_lost.Goals as goal

pub returns : goal.returns
returns g c = λ entries is.
    pushes_watched g.W.Watch.notes entries _ _ (c.push_lost.ensures entries (same_counts entries ∙ is))
