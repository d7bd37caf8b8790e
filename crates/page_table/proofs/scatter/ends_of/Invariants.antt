use Rattle.std.proofs.Common.{◌≡◌, ◌+◌, ◌++◌, drop}
use Rattle.page_table.specs.Grants.{total}
use Rattle.page_table.specs.Taken.{listed}
use Rattle.page_table.specs.Scattered.{ends_from}
use Rattle.page_table.proofs.scatter.ends_of.Given as goal

-- the ends done, and those of the chunks left, are all ends
abbrev pub invariant-loop-chunk : goal.invariant-loop-chunk
invariant-loop-chunk l =
    (l.ends.items ++ ends_from l.end (listed (drop l.chunk-index l.chunks)) ≡ ends_from 0 (listed l.chunks))
    × (l.end + total (listed (drop l.chunk-index l.chunks)) ≡ total (listed l.chunks))
