use Rattle.std.proofs.Common.{arith}
use Rattle.page_ram.proofs.Filled.{all_filled}
use Rattle.page_ram.proofs.raw_block.RawBlock.filled.Goals as goal

pub invariant_of-result : goal.invariant_of-result
invariant_of-result c =
    let made = c.in_ok-base.ensures in
    let filled = c.loop-i.invariant in (
      filled.0,
      made.2,
      made.3,
      made.4,
      filled.1,
      (all_filled c.loop-i.cells.slots c.args.len c.loop-i.i c.args.fill filled.1 (omega arith) filled.2).0,
    )

pub returns : goal.returns
returns c =
    let filled = c.loop-i.invariant in
    (all_filled c.loop-i.cells.slots c.args.len c.loop-i.i c.args.fill filled.1 (omega arith) filled.2).1
