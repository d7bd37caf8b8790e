use Rattle.std.proofs.Common.{◌≡◌, ◌+◌, ◌-◌, ◌≤◌, ◌++◌, List, ℕ, length, drop}
use Rattle.stream_play.specs.Plays.{HandedPart, ReadsForm}
use Rattle.stream_play.proofs.play.hand_mixed.Given as goal

abbrev pub invariant-loop-queue : goal.invariant-loop-queue
invariant-loop-queue g l =
    record {
      handed : HandedPart g.P.Player.act l.at l.fn.player l.fn.reader l.piece l.player l.reader;
      form : ReadsForm g.P.Player.has_slots l.reader;
    }

abbrev pub decreases-loop-queue : goal.decreases-loop-queue
decreases-loop-queue g l = length l.piece - l.at
