use Rattle.std.proofs.Common.{arith, ap, sym, ◌∙◌}
use Rattle.std.proofs.Math.ListN.{get_or-map}
use Rattle.std.proofs.lemmas.List.{length-map}
use Rattle.page_table.specs.Grants.{Chunk, covers}
use Rattle.page_ram.specs.declared.raw_ram.Extent.{Extent}
use Rattle.page_ram.specs.Extents.{extent_chunk}
use Rattle.page_ram.proofs.Extents.{lt-index}
use Rattle.page_ram.proofs.raw_ram.locate.Goals as goal

pub overflow_add-result : goal.overflow_add-result
overflow_add-result c =
    let extents = c.args.extents.now in
    let place = c.place_of-place.result in
    let none : Extent = record { at = 0; len = 0; from = 0 } in
    let here =
    sym (ap (λ (chunk : Chunk). covers chunk c.args.addr) (get_or-map extent_chunk extents place none)) ∙ c.place_of-place.ensures.1 in
    let below =
    lt-index extents c.args.addr place none c.requires.laid
    (omega (arith, length-map extents extent_chunk, c.place_of-place.ensures.0)) here in
    let small = c.requires.grants.small in
    record { fits = omega arith }
