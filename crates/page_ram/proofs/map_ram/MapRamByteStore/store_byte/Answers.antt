use Rattle.std.proofs.Common.{arith, sym, refl, subst}
use Rattle.page_table.specs.Blocks.{AreBlocks}
use Rattle.page_table.proofs.Memory.{AreBlocks-stored}
use Rattle.page_ram.proofs.Places.{place_of_call, covered_at, stored_at}
use Rattle.page_ram.proofs.map_ram.MapRamByteStore.store_byte.Goals as goal

pub index_mut-block-requires : goal.index_mut-block-requires
index_mut-block-requires c =
    let found =
    place_of_call c.self.inside.blocks.items c.deref.result.now c.args.addr c.place_of-place.result c.deref.ensures.value
    c.self.invariant.grants.rising c.place_of-place.ensures in
    let within = found.within in
    omega arith

pub set_byte-requires : goal.set_byte-requires
set_byte-requires c =
    let found =
    place_of_call c.self.inside.blocks.items c.deref.result.now c.args.addr c.place_of-place.result c.deref.ensures.value
    c.self.invariant.grants.rising c.place_of-place.ensures in
    covered_at c.self.inside.blocks.items c.args.addr c.place_of-place.result c.index_mut-block.result.now found
    c.index_mut-block.ensures.value

pub returns-clause-stored : goal.returns-clause-stored
returns-clause-stored c =
    let found =
    place_of_call c.self.inside.blocks.items c.deref.result.now c.args.addr c.place_of-place.result c.deref.ensures.value
    c.self.invariant.grants.rising c.place_of-place.ensures in
    stored_at c.self.inside.blocks.items c.args.self.now c.args.addr c.args.byte c.place_of-place.result c.index_mut-block.result.now
    c.set_byte.new.self c.self.view_is found c.index_mut-block.ensures.value c.set_byte.ensures

pub invariant_of-self : goal.invariant_of-self
invariant_of-self c =
    let found =
    place_of_call c.self.inside.blocks.items c.deref.result.now c.args.addr c.place_of-place.result c.deref.ensures.value
    c.self.invariant.grants.rising c.place_of-place.ensures in
    let items = c.self.inside.blocks.items in
    let written =
    stored_at items items c.args.addr c.args.byte c.place_of-place.result c.index_mut-block.result.now c.set_byte.new.self refl found
    c.index_mut-block.ensures.value c.set_byte.ensures in
    subst AreBlocks (sym written) (AreBlocks-stored items c.args.addr c.args.byte (omega arith) c.self.invariant)

pub returns-clause-sound : goal.returns-clause-sound
returns-clause-sound c =
    let found =
    place_of_call c.self.inside.blocks.items c.deref.result.now c.args.addr c.place_of-place.result c.deref.ensures.value
    c.self.invariant.grants.rising c.place_of-place.ensures in
    let items = c.self.inside.blocks.items in
    let written =
    stored_at items items c.args.addr c.args.byte c.place_of-place.result c.index_mut-block.result.now c.set_byte.new.self refl found
    c.index_mut-block.ensures.value c.set_byte.ensures in
    subst AreBlocks (sym written) (AreBlocks-stored items c.args.addr c.args.byte (omega arith) c.self.invariant)
