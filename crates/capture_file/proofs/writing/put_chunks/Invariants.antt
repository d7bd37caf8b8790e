use Rattle.std.proofs.Common.{length, ◌-◌, ◌≡◌, ◌≤◌, take}
use Rattle.std.specs.List.{flat_map}
use Rattle.capture_desk.specs.Desks.{OnlyWrites, after_write}
use Rattle.capture_file.specs.Programs.{chunk_in}
use Rattle.capture_file.proofs.writing.put_chunks.Given as goal

abbrev pub invariant-loop-at : goal.invariant-loop-at
invariant-loop-at g l =
    record {
      within : l.at ≤ length l.grants;
      room : length l.numbers ≡ 1024;
      done : (g.D.Desk.seen l.desk).told ≡ after_write (flat_map (chunk_in l.layout) (take l.at l.grants)) (g.D.Desk.seen l.fn.desk).told;
      counts : OnlyWrites (g.D.Desk.seen l.fn.desk) (g.D.Desk.seen l.desk);
    }

abbrev pub decreases-loop-at : goal.decreases-loop-at
decreases-loop-at g l = length l.grants - l.at
