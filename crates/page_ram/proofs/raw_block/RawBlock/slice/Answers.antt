use Rattle.std.proofs.Common.{arith, sym, ap, ◌∙◌, take, drop, length}
use Rattle.page_ram.specs.Row.{somes}
use Rattle.page_ram.proofs.Filled.{filled_run, length_filled, same_values}
use Rattle.page_ram.proofs.raw_block.RawBlock.slice.Goals as goal

pub slice-requires : goal.slice-requires
slice-requires c =
    let slots = c.self.inside.cells.slots in
    let long = length_filled slots c.self.invariant.5 in (
      sym c.self.invariant.0,
      (
        omega (arith, ap length c.self.view_is),
        (take c.args.len (drop c.args.from (somes slots)), filled_run slots c.args.from c.args.len c.self.invariant.5),
      ),
    )

pub returns : goal.returns
returns c =
    let slots = c.self.inside.cells.slots in
    same_values c.slice.result.now (take c.args.len (drop c.args.from (somes slots)))
    (sym c.slice.ensures ∙ filled_run slots c.args.from c.args.len c.self.invariant.5)
    ∙ ap (λ l. take c.args.len (drop c.args.from l)) c.self.view_is
