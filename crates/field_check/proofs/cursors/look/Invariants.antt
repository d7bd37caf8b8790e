use Rattle.std.proofs.Common.{◌≡◌}
use Rattle.field_check.specs.Cursors.{Fits, left_of}
use Rattle.field_check.proofs.cursors.look.Given as goal

abbrev pub invariant-loop-cursor : goal.invariant-loop-cursor
invariant-loop-cursor l = Fits l.plan l.q l.cursor × (left_of l.plan l.q l.cursor ≡ left_of l.plan l.q l.fn.cursor)

abbrev pub decreases-loop-cursor : goal.decreases-loop-cursor
decreases-loop-cursor l = l.cursor.more
