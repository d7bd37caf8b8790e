use Rattle.std.proofs.Common.{ap, ◌∙◌, length, map, Some}
use Rattle.page_ram.specs.Row.{somes}
use Rattle.page_ram.specs.Extents.{set_run}
use Rattle.page_ram.proofs.Filled.{AreFilled-map, filled_set_run, length-set_run}
use Rattle.page_ram.proofs.raw_block.RawBlock.set_run.Goals as goal

pub invariant_of-self : goal.invariant_of-self
invariant_of-self c =
    let old = c.self.inside.cells.slots in
    let new = c.write_run.ensures.1 ∙ filled_set_run old c.args.index c.args.bytes.now c.self.invariant.5 in (
      c.write_run.ensures.0 ∙ c.self.invariant.0,
      c.self.invariant.1,
      c.self.invariant.2,
      c.self.invariant.3,
      ap length c.write_run.ensures.1 ∙ length-set_run old c.args.index (map Some c.args.bytes.now) ∙ c.self.invariant.4,
      (AreFilled-map c.write_run.new.cells.slots (set_run (somes old) c.args.index c.args.bytes.now) new).0,
    )

pub returns : goal.returns
returns c =
    let old = c.self.inside.cells.slots in
    let new = c.write_run.ensures.1 ∙ filled_set_run old c.args.index c.args.bytes.now c.self.invariant.5 in
    (AreFilled-map c.write_run.new.cells.slots (set_run (somes old) c.args.index c.args.bytes.now) new).1
    ∙ ap (λ l. set_run l c.args.index c.args.bytes.now) c.self.view_is
