use Rattle.std.proofs.Common.{sym, ap, subst, ◌∙◌}
use Rattle.page_table.specs.Grants.{AreGrants, granted}
use Rattle.page_table.specs.Blocks.{byte_at}
use Rattle.page_ram.specs.Extents.{extent_chunks}
use Rattle.page_ram.proofs.Extents.{cut_grants, cut_granted, byte_found}
use Rattle.page_ram.proofs.raw_ram.PageRamRam.load.Goals as goal

pub locate-index-requires-clause-grants : goal.locate-index-requires-clause-grants
locate-index-requires-clause-grants c =
    subst (λ es. AreGrants (extent_chunks es)) (sym c.deref.ensures.value)
    (cut_grants c.self.inside.block c.self.inside.extents.items c.self.invariant)

pub locate-index-requires-clause-granted : goal.locate-index-requires-clause-granted
locate-index-requires-clause-granted c =
    ap (λ es. granted (extent_chunks es) c.args.addr) c.deref.ensures.value
    ∙ cut_granted c.self.inside.block c.self.inside.extents.items c.args.self.now c.args.addr c.self.invariant c.self.view_is c.requires

pub byte-requires : goal.byte-requires
byte-requires c =
    let at =
    byte_found c.self.inside.block c.self.inside.extents.items c.deref.result.now c.args.addr c.locate-index.result.0
    c.locate-index.result.1 c.self.invariant c.deref.ensures.value c.locate-index.ensures in
    at.inside

pub returns-clause-value : goal.returns-clause-value
returns-clause-value c =
    let at =
    byte_found c.self.inside.block c.self.inside.extents.items c.deref.result.now c.args.addr c.locate-index.result.0
    c.locate-index.result.1 c.self.invariant c.deref.ensures.value c.locate-index.ensures in
    c.byte.ensures ∙ sym at.reads ∙ ap (λ m. byte_at m c.args.addr) c.self.view_is
