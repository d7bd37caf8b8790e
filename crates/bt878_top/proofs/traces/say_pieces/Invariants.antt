use Rattle.std.proofs.Common.{List, ℕ, ◌≡◌, ◌++◌}
use Rattle.capture_desk.specs.Desks.{OnlySaid, after_say}
use Rattle.trace_play.specs.Playing.{text_left}
use Rattle.bt878_top.proofs.Tracing.{pieces_left, still_to_say}
use Rattle.bt878_top.proofs.traces.say_pieces.Given as goal

abbrev pub invariant-loop-more : goal.invariant-loop-more
invariant-loop-more g l =
    (said : List ℕ)
    × (said ++ still_to_say l.more l.trace ≡ text_left l.fn.trace)
    × ((g.D.Desk.seen l.desk).told ≡ after_say said (g.D.Desk.seen l.fn.desk).told)
    × OnlySaid said (g.D.Desk.seen l.fn.desk) (g.D.Desk.seen l.desk)

abbrev pub decreases-loop-more : goal.decreases-loop-more
decreases-loop-more g l = pieces_left l.more l.trace
