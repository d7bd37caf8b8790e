use Rattle.std.proofs.Common.{◌≡◌, ◌⊎◌, ◌<◌, ◌++◌}
use Rattle.trace_play.specs.Playing.{text_left, weight}
use Rattle.trace_play.proofs.StreamTrace.fill.Given as goal

abbrev pub invariant-loop-self : goal.invariant-loop-self
invariant-loop-self g l =
    record {
      text : l.text.bytes ++ text_left l.self ≡ l.fn.text.bytes ++ text_left l.fn.self;
      less : ((l.text ≡ l.fn.text) × (l.self ≡ l.fn.self)) ⊎ (weight l.self < weight l.fn.self);
    }

abbrev pub decreases-loop-self : goal.decreases-loop-self
decreases-loop-self g l = weight l.self
