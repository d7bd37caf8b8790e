use Rattle.stream_play.proofs.PlainPairs.{pairs_lived}
use Rattle.stream_play.proofs.player.DoubleBufferPlayer.push_plain.Goals as goal

pub returns : goal.returns
returns g c = λ pairs plain. pairs_lived c.args.queue pairs c.args.self.now c.push_plain.new.self (c.push_plain.ensures pairs plain)
