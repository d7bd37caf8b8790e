use Rattle.std.proofs.Common.{◌↔◌, drop}
use Rattle.page_table.specs.Grants.{AreRising}
use Rattle.page_table.specs.Taken.{listed}
use Rattle.page_table.proofs.are_rising.Given as goal

abbrev pub invariant-loop-at : goal.invariant-loop-at
invariant-loop-at l = AreRising 0 (listed l.chunks) ↔ AreRising l.end (listed (drop l.at-index l.chunks))
