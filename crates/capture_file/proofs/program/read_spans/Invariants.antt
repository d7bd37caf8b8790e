use Rattle.std.proofs.Common.{◌≡◌, ◌-◌, ◌≤◌, length}
use Rattle.capture_file.specs.Programs.{spans_field}
use Rattle.capture_file.proofs.SpansRead.{HasFirst, with_first}
use Rattle.capture_file.proofs.program.read_spans.Given as goal

abbrev pub invariant-loop : goal.invariant-loop
invariant-loop l = record {
  spans : with_first l.spans (spans_field l.size (l.count - l.counter) l.above.from l.above.words l.rest.bytes.now)
      ≡ spans_field l.size l.count 0 0 l.bytes;
  first : HasFirst l.size l.bytes l.above.from l.above.words l.rest.bytes.now;
  size : l.rest.size ≡ l.size;
  inside : length l.rest.bytes.now ≤ length l.bytes;
}
