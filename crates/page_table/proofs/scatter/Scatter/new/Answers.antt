use Rattle.std.proofs.Common.{◌≡◌, ◌<◌, ◌≤◌, ◌^◌, ℕ, length, get_or, arith, ap, ◌∙◌}
use Rattle.std.specs.Int.{div_ceil}
use Rattle.page_table.specs.Taken.{listed}
use Rattle.page_table.specs.Scattered.{scatter_list}
use Rattle.page_table.proofs.ScatterLists.{scatter_list-of_pages, scattered_pages-yes}
use Rattle.page_table.proofs.scatter.Scatter.new.Goals as goal

pub over-requires : goal.over-requires
over-requires c =
    let pages = c.args.pages.now in
    let fit : (k : ℕ) → k < length pages → get_or pages k 0 < 2 ^ 32 = λ k within. let fits = c.type_inv.pages k in omega arith in
    let need : c.div_ceil-need.result ≡ div_ceil c.args.len 4096 = c.div_ceil-need.ensures ∙ ap (div_ceil c.args.len) c.from.ensures in
    let few : div_ceil c.args.len 4096 ≤ length pages = omega arith in
    let e = c.in_ok-chunks.ensures in
    rw e (scatter_list-of_pages pages c.args.len fit c.requires few)

pub returns-clause-answer : goal.returns-clause-answer
returns-clause-answer c =
    let pages = c.args.pages.now in
    let need : c.div_ceil-need.result ≡ div_ceil c.args.len 4096 = c.div_ceil-need.ensures ∙ ap (div_ceil c.args.len) c.from.ensures in
    let few : div_ceil c.args.len 4096 ≤ length pages = omega arith in
    let e = c.in_ok-chunks.ensures in
    let is = c.in_ok-over.ensures in
    scattered_pages-yes pages c.args.len c.in_ok-over.field-0 few (is ∙ ap (λ items. scatter_list (listed items) c.args.len) e)
