use Rattle.std.proofs.Common.{length, ◌-◌, ◌≡◌, ◌≤◌, take}
use Rattle.capture_desk.specs.Sinks.{OnlyAppended, after_append}
use Rattle.capture_desk.proofs.append.append_all.Given as goal

abbrev pub invariant-loop-at : goal.invariant-loop-at
invariant-loop-at g l =
    record {
      within : l.at ≤ length l.bytes;
      done : (g.D.Desk.seen l.desk).told ≡ after_append l.sink (take l.at l.bytes) (g.D.Desk.seen l.fn.desk).told;
      counts : OnlyAppended l.sink (take l.at l.bytes) (g.D.Desk.seen l.fn.desk) (g.D.Desk.seen l.desk);
    }

abbrev pub decreases-loop-at : goal.decreases-loop-at
decreases-loop-at g l = length l.bytes - l.at
