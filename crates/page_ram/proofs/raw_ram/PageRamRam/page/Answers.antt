use Rattle.std.proofs.Common.{sym, ap, ◌∙◌, Some, List, ℕ}
use Rattle.page_table.specs.Blocks.{Block}
use Rattle.page_ram.proofs.Extents.{page_found}
use Rattle.page_ram.proofs.raw_ram.PageRamRam.page.Goals as goal

pub slice-requires : goal.slice-requires
slice-requires c =
    (page_found c.self.inside.block c.self.inside.extents.items c.args.self.now c.args.i c.index-extent.result.now c.self.invariant
    c.self.view_is c.requires c.index-extent.ensures).0

pub returns-clause-value : goal.returns-clause-value
returns-clause-value c =
    let extent = c.index-extent.result.now in
    let with_bytes : List ℕ → Block = λ bytes. record { at = extent.at; bytes = bytes } in
    (page_found c.self.inside.block c.self.inside.extents.items c.args.self.now c.args.i extent c.self.invariant c.self.view_is c.requires
    c.index-extent.ensures).1
    ∙ ap (λ bytes. Some (with_bytes bytes)) (sym c.slice.ensures)
