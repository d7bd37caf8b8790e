use Rattle.std.proofs.Common.{◌≡◌, ◌⊎◌, ◌-◌, ◌<◌, ◌≤◌, ◌++◌, replicate}
use Rattle.machine_model.specs.Steps.{Turn}
use Rattle.turn_trace.specs.Traces.{after_all, lines}
use Rattle.turn_trace.proofs.Trace.turns.Given as goal

abbrev pub invariant-loop-left : goal.invariant-loop-left
invariant-loop-left g l =
    record {
      within : l.left ≤ l.count;
      more : (l.text ≡ l.fn.text) ⊎ (l.left < l.count);
      state : l.self ≡ after_all l.fn.self (replicate (l.count - l.left) Turn);
      text : l.text.bytes ≡ l.fn.text.bytes ++ lines l.fn.self (replicate (l.count - l.left) Turn);
    }

abbrev pub decreases-loop-left : goal.decreases-loop-left
decreases-loop-left g l = l.left
