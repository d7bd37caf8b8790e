use Rattle.std.proofs.Common.{length, ◌-◌, ◌*◌, ◌≡◌, ◌≤◌, take}
use Rattle.capture_desk.specs.Desks.{OnlyWrites, after_write}
use Rattle.capture_file.specs.Programs.{numbers_spelled}
use Rattle.capture_file.proofs.writing.put_by.Given as goal

abbrev pub invariant-loop-at : goal.invariant-loop-at
invariant-loop-at g l =
    record {
      within : l.at ≤ length l.numbers;
      room : l.most * 4 ≤ length l.piece;
      some : 1 ≤ l.most;
      done : (g.D.Desk.seen l.desk).told ≡ after_write (numbers_spelled (take l.at l.numbers)) (g.D.Desk.seen l.fn.desk).told;
      counts : OnlyWrites (g.D.Desk.seen l.fn.desk) (g.D.Desk.seen l.desk);
    }

abbrev pub decreases-loop-at : goal.decreases-loop-at
decreases-loop-at g l = length l.numbers - l.at
