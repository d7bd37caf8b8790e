use Rattle.std.proofs.Common.{ap, ◌∙◌, slice_set, Some, length}
use Rattle.std.proofs.Math.ListN.{length-set}
use Rattle.page_ram.specs.Row.{somes}
use Rattle.page_ram.proofs.Filled.{filled_set, AreFilled-map}
use Rattle.page_ram.proofs.raw_block.RawBlock.set.Goals as goal

pub invariant_of-self : goal.invariant_of-self
invariant_of-self c =
    let old = c.self.inside.cells.slots in
    let new = c.write.ensures.1 ∙ filled_set old c.args.index c.args.byte c.self.invariant.5 in (
      c.write.ensures.0 ∙ c.self.invariant.0,
      c.self.invariant.1,
      c.self.invariant.2,
      c.self.invariant.3,
      ap length c.write.ensures.1 ∙ length-set old c.args.index (Some c.args.byte) ∙ c.self.invariant.4,
      (AreFilled-map c.write.new.self.slots (slice_set (somes old) c.args.index c.args.byte) new).0,
    )

pub returns : goal.returns
returns c =
    let old = c.self.inside.cells.slots in
    let new = c.write.ensures.1 ∙ filled_set old c.args.index c.args.byte c.self.invariant.5 in
    (AreFilled-map c.write.new.self.slots (slice_set (somes old) c.args.index c.args.byte) new).1
    ∙ ap (λ l. slice_set l c.args.index c.args.byte) c.self.view_is
