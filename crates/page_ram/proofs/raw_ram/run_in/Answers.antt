use Rattle.std.proofs.Common.{◌≡◌, get_or, ap, arith}
use Rattle.page_ram.specs.declared.raw_ram.Extent.{Extent}
use Rattle.page_ram.proofs.Extents.{le-end}
use Rattle.page_ram.proofs.raw_ram.run_in.Goals as goal

pub overflow_add-result : goal.overflow_add-result
overflow_add-result c =
    let place = c.args.place in
    let none : Extent = record { at = 0; len = 0; from = 0 } in
    let small = c.requires.grants.small in
    let there = c.in_ok-extent.ensures.lookup.3.0 in
    let is : c.in_ok-extent.extent.now ≡ get_or c.args.extents.now place none = c.in_ok-extent.ensures.lookup.3.1 none in
    let begins : c.in_ok-extent.extent.now.from ≡ (get_or c.args.extents.now place none).from = ap (λ (e : Extent). e.from) is in
    let long : c.in_ok-extent.extent.now.len ≡ (get_or c.args.extents.now place none).len = ap (λ (e : Extent). e.len) is in
    let ends = le-end 0 c.args.extents.now place none c.requires.laid there in
    record { fits = omega arith }
