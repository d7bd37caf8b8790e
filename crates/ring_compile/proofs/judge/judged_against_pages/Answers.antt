use Rattle.std.proofs.Common.{ℕ, ◌∙◌, List, ap, sym}
use Rattle.std.specs.List.{list_any}
use Rattle.page_table.specs.Taken.{page_at}
use Rattle.ring_model.specs.Rings.{Ring}
use Rattle.page_table.specs.Grants.{is_met}
use Rattle.ring_compile.proofs.Judging.{meets, meets_none, pages_met}
use Rattle.ring_compile.proofs.judge.judged_against_pages.Goals as goal

pub returns-then-any_page_met : goal.returns-then-any_page_met
returns-then-any_page_met c =
    let r = c.args.values.now in
    let end = c.args.end in
    sym (meets r c.any_page_met.result
    (c.any_page_met.ensures
    ∙ ap (λ (ps : List ℕ). list_any (λ page. is_met c.values.inside.base end (page_at page)) ps)
    (c.as_slice.ensures ∙ ap (λ (v : Ring). v.pages) c.values.view_is)
    ∙ ap (λ (b : ℕ). list_any (λ page. is_met b end (page_at page)) r.pages) (ap (λ (v : Ring). v.base) c.values.view_is)
    ∙ pages_met r end c.requires)
    c.if-any_page_met.true)

pub returns-else-any_page_met : goal.returns-else-any_page_met
returns-else-any_page_met c =
    let r = c.args.values.now in
    let end = c.args.end in
    sym (meets_none r c.any_page_met.result
    (c.any_page_met.ensures
    ∙ ap (λ (ps : List ℕ). list_any (λ page. is_met c.values.inside.base end (page_at page)) ps)
    (c.as_slice.ensures ∙ ap (λ (v : Ring). v.pages) c.values.view_is)
    ∙ ap (λ (b : ℕ). list_any (λ page. is_met b end (page_at page)) r.pages) (ap (λ (v : Ring). v.base) c.values.view_is)
    ∙ pages_met r end c.requires)
    c.if-any_page_met.false)
