use Rattle.std.proofs.Common.{◌≡◌, replicate}
use Rattle.machine_model.specs.Steps.{Turn}
use Rattle.machine_watch.specs.Watches.{watched, watching}
use Rattle.machine_watch.proofs.watch.Watch.turns_apart.Given as goal

abbrev pub invariant-loop-left : goal.invariant-loop-left
invariant-loop-left g l =
    watched g.Self.Watch.notes (replicate l.left Turn) (watching l.machine l.self)
    ≡ watched g.Self.Watch.notes (replicate l.fn.count Turn) (watching l.fn.machine l.fn.self)

abbrev pub decreases-loop-left : goal.decreases-loop-left
decreases-loop-left g l = l.left
