use Rattle.std.proofs.Common.{◌≡◌, ◌≤◌, true, List, [], map, ◌∙◌, sym, ap, subst, arith}
use Rattle.std.specs.List.{All}
use Rattle.page_table.specs.Grants.{Chunk, total}
use Rattle.page_table.specs.Taken.{Answers, Taking, listed, page_at, is_aligned, unless_shared, first_shared}
use Rattle.page_table.proofs.Pages.{listed-pages, total-pages, pages_aligned, taken_pages-aligned}
use Rattle.page_table.proofs.PageSet.from_list.Goals as goal

pub gathered-requires-clause-small : goal.gathered-requires-clause-small
gathered-requires-clause-small c =
    let are_pages : listed c.deref.result.now ≡ map page_at c.args.pages.now =
    ap listed (c.deref.ensures.value ∙ c.in_ok-chunks.ensures) ∙ listed-pages c.args.pages.now in
    subst (λ (chunks : List Chunk). total chunks ≤ 16777216) (sym are_pages) (omega (arith, total-pages c.args.pages.now))

pub gathered-requires-clause-aligned : goal.gathered-requires-clause-aligned
gathered-requires-clause-aligned c =
    let are_pages : listed c.deref.result.now ≡ map page_at c.args.pages.now =
    ap listed (c.deref.ensures.value ∙ c.in_ok-chunks.ensures) ∙ listed-pages c.args.pages.now in
    subst (λ (chunks : List Chunk). All (λ chunk. is_aligned chunk ≡ true) chunks) (sym are_pages)
    (pages_aligned c.args.pages.now (λ k _. let fits = c.type_inv.pages k in omega arith)
    (sym c.first_off_page.ensures.found ∙ c.in_default.is))

pub returns-clause-answer : goal.returns-clause-answer
returns-clause-answer c =
    let are_pages : listed c.deref.result.now ≡ map page_at c.args.pages.now =
    ap listed (c.deref.ensures.value ∙ c.in_ok-chunks.ensures) ∙ listed-pages c.args.pages.now in
    let wanted =
    taken_pages-aligned c.args.pages.now c.if-pages-gt-MAX_CHUNKS.false (sym c.first_off_page.ensures.found ∙ c.in_default.is) in
    let same = ap (λ (chunks : List Chunk). unless_shared (first_shared [] chunks) chunks) are_pages in
    subst (λ (taking : Taking). Answers taking c.gathered.result) (same ∙ sym wanted) c.gathered.ensures.answer
