use Rattle.std.proofs.Common.{◌≡◌, ◌-◌, ◌*◌, ◌^◌, ◌≤◌, length}
use Rattle.page_table.specs.Taken.{listed}
use Rattle.capture_file.specs.Programs.{chunks_field, without_grants}
use Rattle.capture_file.proofs.Programs.{with_front}
use Rattle.capture_file.proofs.program.read_chunks.Given as goal

abbrev pub invariant-loop : goal.invariant-loop
invariant-loop l = record {
  chunks : with_front (listed l.chunks.items) (chunks_field l.layout l.size (without_grants l.program.start l.program.spans)
      (l.count - l.counter) l.before.end l.before.bytes l.rest.bytes.now)
      ≡ chunks_field l.layout l.size (without_grants l.program.start l.program.spans) l.count 0 0 l.bytes;
  size : l.rest.size ≡ l.size;
  inside : length l.rest.bytes.now ≤ length l.bytes;
  small : l.before.bytes ≤ l.counter * 2 ^ 32;
}
