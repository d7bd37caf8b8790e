-- Chunks that are whole pages.
use Rattle.std.proofs.Common.{◌≡◌, ℕ, ◌+◌, ◌*◌, ◌%◌, ◌^◌, ◌≤◌, ◌<◌, true, not, List, [], ◌∷◌, length, map, refl, ap, ◌∙◌, arith, subst}
use Rattle.std.proofs.Common.{get_or, Option, None}
use Rattle.std.proofs.lemmas.Bool.{and_from, cond-false, eq-eqb, eqb-true, le-ltb, le-leb}
use Rattle.std.proofs.lemmas.List.{get_or_default}
use Rattle.std.proofs.lemmas.List.Elements.{All-map}
use Rattle.std.specs.List.{position, All}
use Rattle.page_table.specs.Grants.{Chunk, total}
use Rattle.page_table.specs.Taken.{listed, page_at, is_aligned, is_page_address, taken_pages, unless_unaligned, unless_shared, first_shared}
use Rattle.std.specs.Prelude.{nat_lt}
use Rattle.page_table.proofs.Placing.{total-cons}
use Rattle.page_table.proofs.Gathering.{none_found}

pub listed-pages : (pages : List ℕ) → listed (map (λ (page : ℕ). (page, 4096)) pages) ≡ map page_at pages
listed-pages [] = refl
listed-pages (page ∷ rest) = ap (λ (others : List Chunk). page_at page ∷ others) (listed-pages rest)

pub total-pages : (pages : List ℕ) → total (map page_at pages) ≡ length pages * 4096
total-pages [] = refl
total-pages (page ∷ rest) = let first = total-cons (page_at page) (map page_at rest) in let more = total-pages rest in omega arith

page_aligned : (page : ℕ) → page < 2 ^ 32 → is_page_address page ≡ true → is_aligned (page_at page) ≡ true
page_aligned page fits test =
    let on_page : page % 4096 ≡ 0 = eqb-true _ _ test in
    and_from _ _ (and_from _ _ (and_from _ _ (eq-eqb (page % 4) 0 (omega arith)) refl) refl) (le-leb (page + 4096) (2 ^ 32) (omega arith))

pub pages_aligned : (pages : List ℕ) → ((k : ℕ) → k < length pages → get_or pages k 0 < 2 ^ 32) →
    position (λ page. not (is_page_address page)) pages ≡ None → All (λ c. is_aligned c ≡ true) (map page_at pages)
pages_aligned pages fit none = All-map (λ c. is_aligned c ≡ true) page_at pages
    (λ k d within. page_aligned (get_or pages k d) (subst (λ page. page < 2 ^ 32) (get_or_default pages k 0 d within) (fit k within))
    (none_found is_page_address pages none k d within))

-- what is left to decide of a list of pages with no fault but that some may share a byte
pub taken_pages-aligned : (pages : List ℕ) → length pages ≤ 4096 → position (λ page. not (is_page_address page)) pages ≡ None →
    taken_pages pages ≡ unless_shared (first_shared [] (map page_at pages)) (map page_at pages)
taken_pages-aligned pages few aligned =
    cond-false (nat_lt 4096 (length pages)) _ _ (le-ltb 4096 (length pages) few)
    ∙ ap (λ (place : Option ℕ). unless_unaligned place (map page_at pages)) aligned
