use Rattle.std.proofs.Common.{◌-◌, ◌≤◌, List}
use Rattle.fifo_model.specs.declared.Entry.{Entry}
use Rattle.fifo_model.specs.declared.Queue.{Queue}
use Rattle.capture_file.proofs.PushRuns.{AreCounted}
use Rattle.capture_file.proofs.pushes.count_pushes.Given as goal

abbrev pub invariant-loop-count : goal.invariant-loop-count
invariant-loop-count l = (pushes : List (Queue × Entry)) × AreCounted l.piece l.count l.counts pushes × (l.count ≤ l.most)

abbrev pub decreases-loop-count : goal.decreases-loop-count
decreases-loop-count l = l.most - l.count
