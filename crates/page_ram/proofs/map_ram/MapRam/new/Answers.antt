use Rattle.std.proofs.Common.{arith, sym, subst, ap, ◌∙◌}
use Rattle.std.proofs.lemmas.List.{take_all}
use Rattle.page_table.specs.Blocks.{AreBlocks, filled}
use Rattle.page_table.proofs.Memory.{AreBlocks-filled}
use Rattle.page_ram.proofs.map_ram.MapRam.new.Goals as goal

pub invariant_of-result : goal.invariant_of-result
invariant_of-result c =
    let whole = c.loop-i.invariant ∙ ap (filled c.args.fill) (take_all c.loop-i.i c.args.grants.now (omega arith)) in
    subst AreBlocks (sym whole) (AreBlocks-filled c.args.fill c.args.grants.now (omega arith) c.len.ensures.grants)
