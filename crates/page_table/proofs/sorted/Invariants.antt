use Rattle.std.proofs.Common.{take, drop}
use Rattle.page_table.specs.Taken.{listed}
use Rattle.page_table.proofs.Gathering.{IsGathered}
use Rattle.page_table.proofs.sorted.Given as goal

abbrev pub invariant-loop-i : goal.invariant-loop-i
invariant-loop-i l =
    IsGathered (listed l.set.entries) (listed (take l.i l.chunks)) (listed (drop l.i l.chunks)) (listed l.chunks)
