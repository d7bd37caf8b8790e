use Rattle.std.proofs.Common.{◌≡◌, length, take, replicate, Some}
use Rattle.page_ram.proofs.raw_block.RawBlock.filled.Given as goal

abbrev pub invariant-loop-i : goal.invariant-loop-i
invariant-loop-i l =
    (l.cells.at ≡ l.base.ptr) × (length l.cells.slots ≡ l.len) × (take l.i l.cells.slots ≡ replicate l.i (Some l.fill))
