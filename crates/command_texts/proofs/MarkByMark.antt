-- Rows that are not whole, one row after the other.
use Rattle.std.proofs.Common.{ℕ, zero, suc, ◌+◌, ◌≡◌, ◌<◌, ◌≤◌, ◌∙◌, Bool, true, false, List, [], ◌∷◌, length, drop, take, map, get_or, min}
use Rattle.std.proofs.Common.{refl, ap, arith}
use Rattle.std.specs.List.{range_with_len}
use Rattle.std.proofs.lemmas.List.{drop_more}
use Rattle.std.proofs.lemmas.List.FromFn.{get_or-map-range_with_len, length-map-range_with_len}
use Rattle.command_texts.specs.DamageTexts.{bad_rows}

pub no_marks : (rows : List ℕ) → bad_rows rows [] ≡ []
no_marks [] = refl
no_marks (row ∷ rows) = refl

-- marks beyond the rows count for nothing
pub marks_of_rows : (rows : List ℕ) (marks : List Bool) (n : ℕ) → min (length marks) (length rows) ≤ n →
    bad_rows rows (take n marks) ≡ bad_rows rows marks
marks_of_rows [] marks n few = refl
marks_of_rows (row ∷ rows) [] zero few = refl
marks_of_rows (row ∷ rows) [] (suc n) few = refl
marks_of_rows (row ∷ rows) (mark ∷ marks) zero few = absurd (omega (arith, few))
marks_of_rows (row ∷ rows) (true ∷ marks) (suc n) few = marks_of_rows rows marks n (omega (arith, few))
marks_of_rows (row ∷ rows) (false ∷ marks) (suc n) few =
    ap (λ rest. row ∷ rest) (marks_of_rows rows marks n (omega (arith, few)))

-- the rows from one on, where row `i` is `row i`
from_row : (row : ℕ → ℕ) (n i : ℕ) (marks : List Bool) (mark : Bool) → i < length marks → length marks ≤ n →
    get_or marks i false ≡ mark →
    bad_rows (drop i (map row (range_with_len 0 n))) (drop i marks)
    ≡ bad_rows (row i ∷ drop (i + 1) (map row (range_with_len 0 n))) (mark ∷ drop (i + 1) marks)
from_row row n i marks mark more few is =
    let rows = map row (range_with_len 0 n) in
    let at : get_or rows i 0 ≡ row i = get_or-map-range_with_len row 0 n i i 0 (omega arith) (omega arith) in
    let here : drop i rows ≡ row i ∷ drop (i + 1) rows =
    drop_more rows i 0 (omega (arith, length-map-range_with_len row 0 n)) ∙ ap (λ r. r ∷ drop (i + 1) rows) at in
    let there : drop i marks ≡ mark ∷ drop (i + 1) marks =
    drop_more marks i false more ∙ ap (λ m. m ∷ drop (i + 1) marks) is in
    ap (λ rs. bad_rows rs (drop i marks)) here ∙ ap (λ ms. bad_rows (row i ∷ drop (i + 1) rows) ms) there

pub from_whole_row : (row : ℕ → ℕ) (n i : ℕ) (marks : List Bool) → i < length marks → length marks ≤ n →
    get_or marks i false ≡ true →
    bad_rows (drop i (map row (range_with_len 0 n))) (drop i marks)
    ≡ bad_rows (drop (i + 1) (map row (range_with_len 0 n))) (drop (i + 1) marks)
from_whole_row row n i marks more few is = from_row row n i marks true more few is

pub from_bad_row : (row : ℕ → ℕ) (n i : ℕ) (marks : List Bool) → i < length marks → length marks ≤ n →
    get_or marks i false ≡ false →
    bad_rows (drop i (map row (range_with_len 0 n))) (drop i marks)
    ≡ row i ∷ bad_rows (drop (i + 1) (map row (range_with_len 0 n))) (drop (i + 1) marks)
from_bad_row row n i marks more few is = from_row row n i marks false more few is
