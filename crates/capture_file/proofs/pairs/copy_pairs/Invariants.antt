use Rattle.std.proofs.Common.{◌-◌, ◌≤◌, List, ℕ}
use Rattle.capture_file.specs.Pairs.{AreCopied}
use Rattle.capture_file.specs.Streams.{most_turns}
use Rattle.capture_file.proofs.pairs.copy_pairs.Given as goal

abbrev pub invariant-loop-count : goal.invariant-loop-count
invariant-loop-count l =
    (pairs : List (ℕ × ℕ))
    × AreCopied l.queue (most_turns - l.left) l.count (l.left - l.rest) l.piece l.dwords pairs
    × (l.count ≤ l.most)
    × (l.rest ≤ l.left)

abbrev pub decreases-loop-count : goal.decreases-loop-count
decreases-loop-count l = l.most - l.count
