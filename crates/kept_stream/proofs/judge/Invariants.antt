use Rattle.std.proofs.Common.{◌≡◌, ◌-◌, ◌≤◌, false, List, length, drop}
use Rattle.capture_file.specs.declared.Step.{Step}
use Rattle.capture_file.specs.Streams.{stream_of}
use Rattle.capture_file.specs.Readers.{PlacedAt, behind, resumed}
use Rattle.kept_stream.specs.Kept.{longest_kept}
use Rattle.kept_stream.proofs.judge.Given as goal

abbrev pub invariant-loop-at : goal.invariant-loop-at
invariant-loop-at l =
    record {
      within : l.at ≤ length l.bytes;
      whole : (steps : List Step) × (stream_of longest_kept false l.bytes ≡ behind steps (resumed l.reader (drop l.at l.bytes)));
      place : PlacedAt l.reader.phase l.reader.place l.at;
    }

abbrev pub decreases-loop-at : goal.decreases-loop-at
decreases-loop-at l = length l.bytes - l.at
