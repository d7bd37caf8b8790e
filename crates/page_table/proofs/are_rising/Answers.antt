use Rattle.std.proofs.Common.{arith}
use Rattle.page_table.proofs.Gathering.{rising_next}
use Rattle.page_table.proofs.are_rising.Goals as goal

pub loop-at-preserved : goal.loop-at-preserved
loop-at-preserved c =
    rising_next c.args.chunks.now c.loop-at.at-index c.loop-at.end _ c.requires c.loop-at-test.true
    (omega (arith, c.from.ensures, c.if-from-end.false)) (omega (arith, c.from-in-loop-at.ensures, c.from-in-loop-at-2.ensures))
    c.loop-at.invariant
