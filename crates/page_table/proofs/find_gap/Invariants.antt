use Rattle.std.proofs.Common.{◌≡◌, ◌+◌, ◌-◌, ◌≤◌, length, drop}
use Rattle.page_table.specs.Taken.{listed}
use Rattle.page_table.proofs.Covering.{IsScanned}
use Rattle.page_table.proofs.find_gap.Given as goal

abbrev pub invariant-loop-next : goal.invariant-loop-next
invariant-loop-next l =
    IsScanned (listed l.chunks) l.fn.addr l.end (listed (drop l.i l.chunks)) l.next
    × (l.i ≤ length l.chunks) × (l.fn.addr + l.fn.len ≡ l.end)

abbrev pub decreases-loop-next : goal.decreases-loop-next
decreases-loop-next l = length l.chunks - l.i
