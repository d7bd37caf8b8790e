use Rattle.std.proofs.Common.{ℕ, ◌^◌, ◌<◌, List, Option, get_or, sym, subst, arith, Fits, w32}
use Rattle.std.specs.List.{All}
use Rattle.std.proofs.lemmas.List.{get_or_default}
use Rattle.page_table.specs.Taken.{Answers, taken_chunks}
use Rattle.planar_plan.specs.Frames.{taken_memory}
use Rattle.planar_plan.proofs.memory.taken_memory.Goals as goal

pages_fit : (pages : List ℕ) → ((k : ℕ) → Fits w32 (get_or pages k 0)) → All (λ page. page < 2 ^ 32) pages
pages_fit pages fit =
    λ k d within. let fits = fit k in subst (λ page. page < 2 ^ 32) (get_or_default pages k 0 d within) (omega arith)

pub returns-in-None-clause-answer : goal.returns-in-None-clause-answer
returns-in-None-clause-answer c =
    subst (λ (chunks : Option (List (ℕ × ℕ))). Answers (taken_memory chunks c.args.pages.now) c.from_list.result)
    (sym c.in-None.is) c.from_list.ensures.answer

pub returns-in-None-clause-pages : goal.returns-in-None-clause-pages
returns-in-None-clause-pages c = pages_fit c.args.pages.now c.type_inv.pages

pub returns-in-Some-clause-answer : goal.returns-in-Some-clause-answer
returns-in-Some-clause-answer c =
    let answer : Answers (taken_chunks c.in-Some.chunks) c.from_chunks.result =
    subst (λ (pairs : List (ℕ × ℕ)). Answers (taken_chunks pairs) c.from_chunks.result) c.as_slice.ensures c.from_chunks.ensures.answer
    in
    subst (λ (chunks : Option (List (ℕ × ℕ))). Answers (taken_memory chunks c.args.pages.now) c.from_chunks.result)
    (sym c.in-Some.is) answer

pub returns-in-Some-clause-pages : goal.returns-in-Some-clause-pages
returns-in-Some-clause-pages c = pages_fit c.args.pages.now c.type_inv.pages
