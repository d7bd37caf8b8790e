use Rattle.std.proofs.Common.{arith, sym, ap, subst, ◌∙◌}
use Rattle.page_table.specs.Grants.{AreGrants, granted}
use Rattle.page_table.specs.Blocks.{AreBlocks, stored}
use Rattle.page_ram.specs.Extents.{extent_chunks, laid, AreCut}
use Rattle.page_ram.proofs.Extents.{cut_grants, cut_granted, byte_found, AreCut-set}
use Rattle.page_ram.proofs.raw_ram.PageRamByteStore.store_byte.Goals as goal

pub locate-place-requires-clause-grants : goal.locate-place-requires-clause-grants
locate-place-requires-clause-grants c =
    subst (λ es. AreGrants (extent_chunks es)) (sym c.deref.ensures.value)
    (cut_grants c.self.inside.block c.self.inside.extents.items c.self.invariant)

pub locate-place-requires-clause-granted : goal.locate-place-requires-clause-granted
locate-place-requires-clause-granted c =
    ap (λ es. granted (extent_chunks es) c.args.addr) c.deref.ensures.value
    ∙ cut_granted c.self.inside.block c.self.inside.extents.items c.args.self.now c.args.addr c.self.invariant c.self.view_is c.requires

pub set-requires : goal.set-requires
set-requires c =
    let at =
    byte_found c.self.inside.block c.self.inside.extents.items c.deref.result.now c.args.addr c.locate-place.result.0
    c.locate-place.result.1 c.self.invariant c.deref.ensures.value c.locate-place.ensures in
    at.inside

pub invariant_of-self : goal.invariant_of-self
invariant_of-self c =
    let at =
    byte_found c.self.inside.block c.self.inside.extents.items c.deref.result.now c.args.addr c.locate-place.result.0
    c.locate-place.result.1 c.self.invariant c.deref.ensures.value c.locate-place.ensures in
    subst (λ bytes. AreCut bytes c.self.inside.extents.items) (sym c.set.ensures)
    (AreCut-set c.self.inside.block c.self.inside.extents.items c.args.addr c.locate-place.result.1 c.args.byte
    (omega arith) c.self.invariant at)

pub returns-clause-stored : goal.returns-clause-stored
returns-clause-stored c =
    let at =
    byte_found c.self.inside.block c.self.inside.extents.items c.deref.result.now c.args.addr c.locate-place.result.0
    c.locate-place.result.1 c.self.invariant c.deref.ensures.value c.locate-place.ensures in
    ap (λ bytes. laid bytes c.self.inside.extents.items) c.set.ensures ∙ sym (at.writes c.args.byte)
    ∙ ap (λ m. stored m c.args.addr c.args.byte) c.self.view_is

pub returns-clause-sound : goal.returns-clause-sound
returns-clause-sound c =
    let at =
    byte_found c.self.inside.block c.self.inside.extents.items c.deref.result.now c.args.addr c.locate-place.result.0
    c.locate-place.result.1 c.self.invariant c.deref.ensures.value c.locate-place.ensures in
    let cut =
    AreCut-set c.self.inside.block c.self.inside.extents.items c.args.addr c.locate-place.result.1 c.args.byte
    (omega arith) c.self.invariant at in
    subst (λ bytes. AreBlocks (laid bytes c.self.inside.extents.items)) (sym c.set.ensures) cut.blocks
