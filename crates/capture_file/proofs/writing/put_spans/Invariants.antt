use Rattle.std.proofs.Common.{◌≡◌, take}
use Rattle.std.specs.List.{flat_map}
use Rattle.capture_desk.specs.Desks.{OnlyWrites, after_write}
use Rattle.capture_file.specs.Programs.{span_spelled}
use Rattle.capture_file.proofs.writing.put_spans.Given as goal

abbrev pub invariant-loop-number : goal.invariant-loop-number
invariant-loop-number g l =
    record {
      done : (g.D.Desk.seen l.desk).told ≡ after_write (flat_map span_spelled (take l.number l.spans)) (g.D.Desk.seen l.fn.desk).told;
      counts : OnlyWrites (g.D.Desk.seen l.fn.desk) (g.D.Desk.seen l.desk);
    }
