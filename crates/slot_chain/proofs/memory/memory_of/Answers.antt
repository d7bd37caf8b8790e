use Rattle.std.proofs.Common.{◌∙◌, ℕ, List, Option, map, sym, ap}
use Rattle.page_table.specs.Taken.{listed, page_at}
use Rattle.page_table.proofs.Pages.{listed-pages}
use Rattle.picture_model.specs.Described.{memory_from}
use Rattle.slot_chain.proofs.memory.memory_of.Goals as goal

pub returns-in_ok-whole_pages-in-None : goal.returns-in_ok-whole_pages-in-None
returns-in_ok-whole_pages-in-None c =
    ap listed c.in_ok-whole_pages-in-None.ensures ∙ listed-pages c.as_slice.result.now ∙ ap (map page_at) c.as_slice.ensures
    ∙ ap (λ (chunks : Option (List (ℕ × ℕ))). memory_from chunks c.args.desc.now.pages) (sym c.in-None.is)
