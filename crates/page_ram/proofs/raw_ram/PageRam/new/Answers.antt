use Rattle.std.proofs.Common.{arith, sym, ap, subst, ◌∙◌}
use Rattle.page_ram.specs.Extents.{laid, AreCut}
use Rattle.page_ram.proofs.Extents.{AreCut-filled}
use Rattle.page_ram.proofs.raw_ram.PageRam.new.Goals as goal

pub invariant_of-result : goal.invariant_of-result
invariant_of-result c =
    let made = c.in_ok-extents.ensures.laid in
    let extents = c.in_ok-extents.extents.items in
    subst (λ bytes. AreCut bytes extents) (sym c.in_ok-block.ensures)
    (AreCut-filled c.args.fill c.in_ok-extents.size extents c.args.grants.now
    (omega arith) c.in_ok-extents.ensures.grants made.0 made.1 made.2).0

pub returns : goal.returns
returns c =
    let made = c.in_ok-extents.ensures.laid in
    let extents = c.in_ok-extents.extents.items in
    ap (λ bytes. laid bytes extents) c.in_ok-block.ensures
    ∙ (AreCut-filled c.args.fill c.in_ok-extents.size extents c.args.grants.now
    (omega arith) c.in_ok-extents.ensures.grants made.0 made.1 made.2).1
