use Rattle.std.proofs.Common.{arith, ◌∙◌}
use Rattle.page_ram.proofs.Places.{place_of_call, covered_at, loaded_at}
use Rattle.page_ram.proofs.map_ram.MapRamRam.load.Goals as goal

pub index-block-requires : goal.index-block-requires
index-block-requires c =
    let found =
    place_of_call c.self.inside.blocks.items c.deref.result.now c.args.addr c.place_of-place.result c.deref.ensures.value
    c.self.invariant.grants.rising c.place_of-place.ensures in
    let within = found.within in
    omega arith

pub byte-requires : goal.byte-requires
byte-requires c =
    let found =
    place_of_call c.self.inside.blocks.items c.deref.result.now c.args.addr c.place_of-place.result c.deref.ensures.value
    c.self.invariant.grants.rising c.place_of-place.ensures in
    covered_at c.self.inside.blocks.items c.args.addr c.place_of-place.result c.index-block.result.now found c.index-block.ensures

pub returns-clause-value : goal.returns-clause-value
returns-clause-value c =
    let found =
    place_of_call c.self.inside.blocks.items c.deref.result.now c.args.addr c.place_of-place.result c.deref.ensures.value
    c.self.invariant.grants.rising c.place_of-place.ensures in
    c.byte.ensures
    ∙ loaded_at c.self.inside.blocks.items c.args.self.now c.args.addr c.place_of-place.result c.index-block.result.now c.self.view_is found
    c.index-block.ensures
