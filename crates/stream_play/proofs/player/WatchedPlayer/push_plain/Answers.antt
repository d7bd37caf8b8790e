use Rattle.stream_play.proofs.PlainPairs.{pairs_watched}
use Rattle.stream_play.proofs.player.WatchedPlayer.push_plain.Goals as goal

pub returns : goal.returns
returns g c =
    λ pairs plain. pairs_watched g.W.Watch.notes c.args.queue pairs c.args.self.now c.push_plain.new.self (c.push_plain.ensures pairs plain)
