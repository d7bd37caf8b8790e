use Rattle.std.proofs.Common.{arith, sym, ap, get_or, length}
use Rattle.page_ram.specs.Row.{somes}
use Rattle.page_ram.proofs.Filled.{filled_at}
use Rattle.page_ram.proofs.raw_block.RawBlock.byte.Goals as goal

pub get-requires : goal.get-requires
get-requires c =
    let slots = c.self.inside.cells.slots in (
      sym c.self.invariant.0,
      (get_or (somes slots) c.args.index 0, filled_at slots c.args.index 0 c.self.invariant.5 (omega (arith, ap length c.self.view_is))),
    )
