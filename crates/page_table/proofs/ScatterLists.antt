-- Pages and chunks without a fault make scatter lists.
use Rattle.std.proofs.Common.{◌≡◌, ℕ, ◌^◌, ◌≤◌, ◌<◌, true, List, length, map, get_or, sym, ap, ◌∙◌, arith, Ok}
use Rattle.std.proofs.lemmas.Bool.{cond-false, le-ltb}
use Rattle.std.proofs.lemmas.Grind.{div_ceil_times}
use Rattle.std.proofs.lemmas.List.{length-map}
use Rattle.std.proofs.lemmas.List.Elements.{All-map}
use Rattle.std.specs.Int.{div_ceil}
use Rattle.std.specs.List.{All}
use Rattle.std.specs.Prelude.{nat_lt}
use Rattle.page_table.specs.Grants.{Chunk, total}
use Rattle.page_table.specs.Taken.{is_aligned, listed, page_at, pair_chunk}
use Rattle.page_table.specs.Scattered.{AreChunks, ArePages, IsScatterList, ScatterList, if_enough, scatter_list, scattered_pages}
use Rattle.page_table.proofs.Gathering.{none_found}
use Rattle.page_table.proofs.Pages.{listed-pages, pages_aligned, total-pages}
use Rattle.page_table.proofs.Scattered.{length-le-total, total-le}

pub chunks_aligned : (pairs : List (ℕ × ℕ)) → AreChunks pairs → All (λ c. is_aligned c ≡ true) (listed pairs)
chunks_aligned pairs good =
    All-map (λ (c : Chunk). is_aligned c ≡ true) pair_chunk pairs
    (none_found (λ (pair : ℕ × ℕ). is_aligned (pair_chunk pair)) pairs good.aligned)

-- chunks without a fault are few, and have 2^32 bytes at most
pub total-le-chunks : (pairs : List (ℕ × ℕ)) → AreChunks pairs → total (listed pairs) ≤ 2 ^ 32
total-le-chunks pairs good = total-le (listed pairs) (chunks_aligned pairs good) good.apart

pub length-le-chunks : (pairs : List (ℕ × ℕ)) → AreChunks pairs → length pairs ≤ 2 ^ 30
length-le-chunks pairs good =
    let bytes = total-le-chunks pairs good in
    let few = length-le-total (listed pairs) (chunks_aligned pairs good) in
    let same = length-map pairs pair_chunk in
    omega arith

pub scatter_list-of_chunks : (pairs : List (ℕ × ℕ)) (len : ℕ) → AreChunks pairs → len ≤ total (listed pairs) →
    IsScatterList (scatter_list (listed pairs) len)
scatter_list-of_chunks pairs len good enough =
    record { aligned = chunks_aligned pairs good; apart = good.apart; enough = enough }

-- so many whole pages have as many bytes at least
pub pages_enough : (pages : List ℕ) (len : ℕ) → div_ceil len 4096 ≤ length pages → len ≤ total (map page_at pages)
pages_enough pages len few =
    let bounds = div_ceil_times len 4096 (omega arith) in
    let bytes = total-pages pages in
    omega arith

pub scatter_list-of_pages : (pages : List ℕ) (len : ℕ) → ((k : ℕ) → k < length pages → get_or pages k 0 < 2 ^ 32) → ArePages pages →
    div_ceil len 4096 ≤ length pages →
    IsScatterList (scatter_list (listed (map (λ (page : ℕ). (page, 4096)) pages)) len)
scatter_list-of_pages pages len fit good few =
    rw (listed-pages pages) (record {
      aligned = pages_aligned pages fit good.aligned;
      apart = good.apart;
      enough = pages_enough pages len few;
    })

-- where there are enough, the list is made
pub if_enough-yes : (need have : ℕ) (s : ScatterList) → need ≤ have → if_enough need have s ≡ Ok s
if_enough-yes need have s enough = cond-false (nat_lt have need) _ _ (le-ltb have need enough)

pub scattered_pages-yes : (pages : List ℕ) (len : ℕ) (s : ScatterList) → div_ceil len 4096 ≤ length pages →
    s ≡ scatter_list (listed (map (λ (page : ℕ). (page, 4096)) pages)) len → scattered_pages pages len ≡ Ok s
scattered_pages-yes pages len s few is =
    if_enough-yes (div_ceil len 4096) (length pages) (scatter_list (map page_at pages) len) few
    ∙ ap (λ (chunks : List Chunk). Ok (scatter_list chunks len)) (sym (listed-pages pages))
    ∙ ap (λ (t : ScatterList). Ok t) (sym is)
