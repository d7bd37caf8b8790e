-- Rows between which no rectangle begins or ends have the same spans.
use Rattle.std.proofs.Common.{◌≡◌, ℕ, zero, suc, ◌+◌, ◌/◌, ◌*◌, ◌≤◌, ◌<◌, ◌^◌, Bool, ◌&&◌, ◌||◌, if◌then◌else◌, List, [], ◌∷◌, refl, sym}
use Rattle.std.proofs.Common.{◌∙◌, ap, subst, arith, inl, inr}
use Rattle.std.specs.Prelude.{nat_le, nat_lt}
use Rattle.std.proofs.lemmas.Bool.{and_from, and_left, and_right, cases_lt, cond-false, cond-true, le-leb, le-ltb, lt-leb, lt-ltb}
use Rattle.clip_spans.specs.Clipping.{clipped_at, covers, edge_after, meets, next_edge, pixel_clipped, some_from}
use Rattle.clip_spans.specs.Runs.{spans_of}
use Rattle.clip_spans.specs.declared.Rect.{Rect}
use Rattle.clip_spans.proofs.Runs.{only_spans, runs_along, spans_of-spans}

pub few_edges : (rects : List Rect) (row : ℕ) → next_edge rects row ≤ 2 ^ 32
few_edges [] row = omega arith
few_edges (rect ∷ rest) row = omega (arith, few_edges rest row)

abbrev later : ℕ → Rect → ℕ
later row rect = if nat_lt row (rect.y + rect.h) then rect.y + rect.h else 2 ^ 32

pub later_edge : (rects : List Rect) (row : ℕ) → row < 2 ^ 32 → row < next_edge rects row
later_edge [] row few = few
later_edge (rect ∷ rest) row few =
    let first : row < edge_after row rect =
    elim (cases_lt row rect.y) [
      | inl before ↦
          subst (λ edge. row < edge) (sym (cond-true (nat_lt row rect.y) rect.y (later row rect) (lt-ltb row rect.y before))) before
      | inr begun ↦
          subst (λ edge. row < edge) (sym (cond-false (nat_lt row rect.y) rect.y (later row rect) (le-ltb row rect.y begun)))
          (elim (cases_lt row (rect.y + rect.h)) [
            | inl within ↦ subst (λ edge. row < edge)
                (sym (cond-true (nat_lt row (rect.y + rect.h)) (rect.y + rect.h) (2 ^ 32) (lt-ltb row (rect.y + rect.h) within))) within
            | inr ended ↦ subst (λ edge. row < edge)
                (sym (cond-false (nat_lt row (rect.y + rect.h)) (rect.y + rect.h) (2 ^ 32) (le-ltb row (rect.y + rect.h) ended))) few
          ])
    ]
    in
    omega (arith, first, later_edge rest row few)

meets_alike : (rect : Rect) (row other : ℕ) → row ≤ other → other < edge_after row rect → meets rect row ≡ meets rect other
meets_alike rect row other up below =
    elim (cases_lt row rect.y) [
      | inl before ↦
          let edge : edge_after row rect ≡ rect.y = cond-true (nat_lt row rect.y) rect.y (later row rect) (lt-ltb row rect.y before) in
          and_left (nat_le rect.y row) (nat_lt row (rect.y + rect.h)) (lt-leb rect.y row before)
          ∙ sym (and_left (nat_le rect.y other) (nat_lt other (rect.y + rect.h)) (lt-leb rect.y other (omega (arith, edge, below))))
      | inr begun ↦
          elim (cases_lt row (rect.y + rect.h)) [
            | inl within ↦
                let edge : edge_after row rect ≡ rect.y + rect.h =
                cond-false (nat_lt row rect.y) rect.y (later row rect) (le-ltb row rect.y begun)
                ∙ cond-true (nat_lt row (rect.y + rect.h)) (rect.y + rect.h) (2 ^ 32) (lt-ltb row (rect.y + rect.h) within)
                in
                and_from _ _ (le-leb rect.y row begun) (lt-ltb row (rect.y + rect.h) within)
                ∙ sym (and_from _ _ (le-leb rect.y other (omega arith)) (lt-ltb other (rect.y + rect.h) (omega (arith, edge, below))))
            | inr ended ↦
                and_right (nat_le rect.y row) (nat_lt row (rect.y + rect.h)) (le-ltb row (rect.y + rect.h) ended)
                ∙ sym (and_right (nat_le rect.y other) (nat_lt other (rect.y + rect.h)) (le-ltb other (rect.y + rect.h) (omega arith)))
          ]
    ]

alike_pixels : (rects : List Rect) (row other x : ℕ) → row ≤ other → other < next_edge rects row →
    pixel_clipped rects row x ≡ pixel_clipped rects other x
alike_pixels [] row other x up below = refl
alike_pixels (rect ∷ rest) row other x up below =
    ap (λ b. (nat_le rect.x x && nat_lt x (rect.x + rect.w) && b) || pixel_clipped rest row x)
    (meets_alike rect row other up (omega (arith, below)))
    ∙ ap (λ b. covers rect other x || b) (alike_pixels rest row other x up (omega (arith, below)))

some_from-same : (one two : ℕ → Bool) (x count : ℕ) → ((y : ℕ) → one y ≡ two y) → some_from one x count ≡ some_from two x count
some_from-same one two x zero same = refl
some_from-same one two x (suc count) same =
    ap (λ b. b || some_from one (x + 1) count) (same x) ∙ ap (λ b. two x || b) (some_from-same one two (x + 1) count same)

pub alike_spans : (rects : List Rect) (row other width pixels : ℕ) → row ≤ other → other < next_edge rects row →
    spans_of rects row width pixels ≡ spans_of rects other width pixels
alike_spans rects row other width pixels up below =
    only_spans rects other width pixels (spans_of rects row width pixels)
    (runs_along (clipped_at rects row pixels) (clipped_at rects other pixels) width 0 (spans_of rects row width pixels)
    (λ y within. some_from-same (pixel_clipped rects row) (pixel_clipped rects other) (y / pixels * pixels) pixels
    (λ x. alike_pixels rects row other x up below))
    (spans_of-spans rects row width pixels))
