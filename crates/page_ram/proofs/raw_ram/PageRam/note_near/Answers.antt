use Rattle.std.proofs.Common.{sym, ap, subst, ◌∙◌}
use Rattle.page_table.specs.Grants.{AreGrants, granted}
use Rattle.page_ram.specs.Extents.{extent_chunks}
use Rattle.page_ram.proofs.Extents.{cut_grants, cut_granted}
use Rattle.page_ram.proofs.raw_ram.PageRam.note_near.Goals as goal

pub locate-place-requires-clause-grants : goal.locate-place-requires-clause-grants
locate-place-requires-clause-grants c =
    subst (λ es. AreGrants (extent_chunks es)) (sym c.deref.ensures.value)
    (cut_grants c.self.inside.block c.self.inside.extents.items c.self.invariant)

pub locate-place-requires-clause-granted : goal.locate-place-requires-clause-granted
locate-place-requires-clause-granted c =
    ap (λ es. granted (extent_chunks es) c.args.addr) c.deref.ensures.value
    ∙ cut_granted c.self.inside.block c.self.inside.extents.items c.args.self.now c.args.addr c.self.invariant c.self.view_is c.requires
