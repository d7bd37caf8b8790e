-- Pixel x of a row is clipped, together with its unit, exactly where it is in the part of some rectangle.
use Rattle.std.proofs.Common.{◌≡◌, ℕ, zero, suc, ◌+◌, ◌-◌, ◌*◌, ◌/◌, ◌%◌, ◌<◌, ◌≤◌, Bool, true, false, ◌&&◌, ◌||◌, List, [], ◌∷◌, Option}
use Rattle.std.proofs.Common.{Some, None, refl, sym, ◌∙◌, ap, arith, inl, inr}
use Rattle.std.specs.Prelude.{nat_le, nat_lt, min, max}
use Rattle.std.specs.List.{All, cons_option}
use Rattle.std.proofs.lemmas.List.Elements.{All-cons}
use Rattle.std.proofs.Math.Nat.{le-div_iff_mul-le}
use Rattle.std.proofs.lemmas.Bool.{le-leb, lt-leb, lt-ltb, le-ltb, ltb-true, ltb-false, and_from, and_left, and_right, and_parts, and_cases}
use Rattle.std.proofs.lemmas.Bool.{or_left, or_right, or_from, cases_lt, cond_both}
use Rattle.clip_spans.specs.Clipping.{meets, covers, pixel_clipped, some_from, clipped_at}
use Rattle.clip_spans.specs.Parts.{IsPart, inside, is_inside, units, part_of, parts_of}
use Rattle.clip_spans.specs.declared.Rect.{Rect}
use Rattle.clip_spans.specs.declared.Part.{Part}

-- one of so many pixels

pub some_from-hit : (test : ℕ → Bool) (y x count : ℕ) → x ≤ y → y < x + count → test y ≡ true → some_from test x count ≡ true
some_from-hit test y x zero above below passes = absurd (omega arith)
some_from-hit test y x (suc count) above below passes =
    elim (cases_lt x y) [
      | inl later ↦ or_right (test x) (some_from test (x + 1) count) (some_from-hit test y (x + 1) count (omega arith) (omega arith) passes)
      | inr here ↦ let same : x ≡ y = omega arith in or_left (test x) (some_from test (x + 1) count) (ap test same ∙ passes)
    ]

pub some_from-none : (test : ℕ → Bool) (x count : ℕ) → ((y : ℕ) → x ≤ y → y < x + count → test y ≡ false) → some_from test x count ≡ false
some_from-none test x zero none = refl
some_from-none test x (suc count) none =
    or_from (test x) (some_from test (x + 1) count) (none x (omega arith) (omega arith))
    (some_from-none test (x + 1) count (λ y above below. none y (omega arith) (omega arith)))

or_four : (a b c d : Bool) → ((a || b) || (c || d)) ≡ ((a || c) || (b || d))
or_four true b c d = refl
or_four false true true d = refl
or_four false true false d = refl
or_four false false c d = refl

pub some_from-or : (one two : ℕ → Bool) (x count : ℕ) →
    some_from (λ y. one y || two y) x count ≡ (some_from one x count || some_from two x count)
some_from-or one two x zero = refl
some_from-or one two x (suc count) =
    ap (λ b. (one x || two x) || b) (some_from-or one two (x + 1) count)
    ∙ or_four (one x) (two x) (some_from one (x + 1) count) (some_from two (x + 1) count)

-- the part of one rectangle

abbrev pub in_part : Option Part → ℕ → Bool
in_part None x = false
in_part (Some part) x = inside x part

one_more : (u p : ℕ) → (u + 1) * p ≡ u * p + p
one_more u p = grind arith

-- x is not below a multiple of p exactly where its unit is not below that unit
unit_below : (p k y : ℕ) → 0 < p → k ≤ y / p → k * p ≤ y
unit_below p k y some = (le-div_iff_mul-le {k = p} {x = k} {y = y} some).0

below_unit : (p k y : ℕ) → 0 < p → k * p ≤ y → k ≤ y / p
below_unit p k y some = (le-div_iff_mul-le {k = p} {x = k} {y = y} some).1

above_unit : (p k y : ℕ) → 0 < p → y / p < k → y < k * p
above_unit p k y some less =
    elim (cases_lt y (k * p)) [
      | inl is ↦ is
      | inr not_so ↦ let wrong = below_unit p k y some not_so in absurd (omega arith)
    ]

-- a unit of a row of whole units ends in the row
unit_ends : (p x width : ℕ) → 0 < p → width % p ≡ 0 → x < width → x / p * p + p ≤ width
unit_ends p x width some whole below =
    let all : width / p * p ≡ width = grind arith in
    elim (cases_lt (x / p) (width / p)) [
      | inl less ↦ let fits = unit_below p (x / p + 1) width some (omega arith) in let e = one_more (x / p) p in omega arith
      | inr not_so ↦ let wrong = unit_below p (width / p) x some not_so in absurd (omega arith)
    ]

module _ (rect : Rect) (row width p x : ℕ) (some : 0 < p) (whole : width % p ≡ 0) (below : x < width) where
  missed : ((y : ℕ) → x / p * p ≤ y → y < x / p * p + p → covers rect row y ≡ false) → false ≡ some_from (covers rect row) (x / p * p) p
  missed none = sym (some_from-none (covers rect row) (x / p * p) p none)

  left_of : (y : ℕ) → y < rect.x → covers rect row y ≡ false
  left_of y less = and_left _ _ (and_left (nat_le rect.x y) (nat_lt y (rect.x + rect.w)) (lt-leb rect.x y less))

  right_of : (y : ℕ) → rect.x + rect.w ≤ y → covers rect row y ≡ false
  right_of y more = and_left _ _ (and_right (nat_le rect.x y) (nat_lt y (rect.x + rect.w)) (le-ltb y (rect.x + rect.w) more))

  within : (y : ℕ) → rect.x ≤ y → y < rect.x + rect.w → meets rect row ≡ true → covers rect row y ≡ true
  within y from to in_row = and_from _ _ (and_from _ _ (le-leb rect.x y from) (lt-ltb y (rect.x + rect.w) to)) in_row

  -- the part ends at the unit after that of pixel `last`
  in_units : (last : ℕ) → last + 1 ≡ min (rect.x + rect.w) width → 0 < rect.w → meets rect row ≡ true →
      (nat_le (rect.x / p * p) x && nat_lt x ((last / p + 1) * p)) ≡ some_from (covers rect row) (x / p * p) p
  in_units last e wide in_row =
      let ends = unit_ends p x width some whole below in
      elim (cases_lt (x / p) (rect.x / p)) [
        | inl before ↦
            let less = above_unit p (rect.x / p) x some before in
            let fits = unit_below p (x / p + 1) rect.x some (omega arith) in
            let m = one_more (x / p) p in
            and_left _ _ (lt-leb (rect.x / p * p) x less) ∙ missed (λ y from to. left_of y (omega arith))
        | inr from ↦ elim (cases_lt (last / p) (x / p)) [
          | inl after ↦
              let more = unit_below p (last / p + 1) x some (omega arith) in
              let far = above_unit p (x / p) last some after in
              and_right _ _ (le-ltb x ((last / p + 1) * p) more) ∙ missed (λ y low high. right_of y (omega arith))
          | inr to ↦
              let low = unit_below p (rect.x / p) x some from in
              let high = above_unit p (last / p + 1) x some (omega arith) in
              let start = unit_below p (x / p) last some to in
              let meet = above_unit p (x / p + 1) rect.x some (omega arith) in
              let m = one_more (x / p) p in
              let y = max (x / p * p) rect.x in
              and_from _ _ (le-leb (rect.x / p * p) x low) (lt-ltb x ((last / p + 1) * p) high)
              ∙ sym
              (some_from-hit (covers rect row) y (x / p * p) p (omega arith) (omega arith) (within y (omega arith) (omega arith) in_row))
        ]
      ]

  no_part : (meets rect row && nat_lt 0 rect.w && nat_lt rect.x width) ≡ false → (y : ℕ) → y < width → covers rect row y ≡ false
  no_part none y less =
      elim (and_cases (meets rect row && nat_lt 0 rect.w) (nat_lt rect.x width) none) [
        | inl first ↦ elim (and_cases (meets rect row) (nat_lt 0 rect.w) first) [
          | inl apart ↦ and_right _ _ apart
          | inr empty ↦
              let thin = ltb-false 0 rect.w empty in
              elim (cases_lt y rect.x) [ inl before ↦ left_of y before | inr after ↦ right_of y (omega arith) ]
        ]
        | inr outside ↦ let far = ltb-false rect.x width outside in left_of y (omega arith)
      ]

  pub part_says : in_part (part_of row width p rect) x ≡ some_from (covers rect row) (x / p * p) p
  part_says =
      let ends = unit_ends p x width some whole below in
      cond_both (meets rect row && nat_lt 0 rect.w && nat_lt rect.x width) (Some (units rect.x (min (rect.x + rect.w) width) p)) None
      (λ o. in_part o x ≡ some_from (covers rect row) (x / p * p) p)
      (λ e.
      let tests = and_parts (meets rect row && nat_lt 0 rect.w) (nat_lt rect.x width) e in
      let first = and_parts (meets rect row) (nat_lt 0 rect.w) tests.0 in
      let wide = ltb-true 0 rect.w first.1 in
      let left = ltb-true rect.x width tests.1 in
      in_units (min (rect.x + rect.w) width - 1) (omega arith) wide first.0)
      (λ e. missed (λ y low high. no_part e y (omega arith)))

with_part : (o : Option Part) (parts : List Part) (x : ℕ) → is_inside (cons_option o parts) x ≡ (in_part o x || is_inside parts x)
with_part None parts x = refl
with_part (Some part) parts x = refl

none_clipped : (x count : ℕ) → some_from (λ y. false) x count ≡ false
none_clipped x count = some_from-none (λ y. false) x count (λ y above below. refl)

pub parts_say : (rects : List Rect) (row width pixels x : ℕ) → 0 < pixels → width % pixels ≡ 0 → x < width →
    is_inside (parts_of rects row width pixels) x ≡ clipped_at rects row pixels x
parts_say [] row width pixels x some whole below = sym (none_clipped (x / pixels * pixels) pixels)
parts_say (rect ∷ rest) row width pixels x some whole below =
    with_part (part_of row width pixels rect) (parts_of rest row width pixels) x
    ∙ ap (λ b. b || is_inside (parts_of rest row width pixels) x) (part_says rect row width pixels x some whole below)
    ∙ ap (λ b. some_from (covers rect row) (x / pixels * pixels) pixels || b) (parts_say rest row width pixels x some whole below)
    ∙ sym (some_from-or (covers rect row) (pixel_clipped rest row) (x / pixels * pixels) pixels)

-- each part has pixels, all in the row

abbrev pub IsRowPart : ℕ → Option Part → Type 0
IsRowPart width None = Unit {0}
IsRowPart width (Some part) = IsPart width part

units-IsPart : (start last p width : ℕ) → 0 < p → width % p ≡ 0 → start ≤ last → last < width →
    (start / p * p < (last / p + 1) * p) × ((last / p + 1) * p ≤ width)
units-IsPart start last p width some whole order below =
    let from = unit_below p (start / p) start some (omega arith) in
    let to = above_unit p (last / p + 1) last some (omega arith) in
    let ends = unit_ends p last width some whole below in
    let e = one_more (last / p) p in
    (omega arith, omega arith)

pub part_of-IsRowPart : (rect : Rect) (row width p : ℕ) → 0 < p → width % p ≡ 0 → IsRowPart width (part_of row width p rect)
part_of-IsRowPart rect row width p some whole =
    cond_both (meets rect row && nat_lt 0 rect.w && nat_lt rect.x width) (Some (units rect.x (min (rect.x + rect.w) width) p)) None
    (IsRowPart width)
    (λ e.
    let tests = and_parts (meets rect row && nat_lt 0 rect.w) (nat_lt rect.x width) e in
    let first = and_parts (meets rect row) (nat_lt 0 rect.w) tests.0 in
    let wide = ltb-true 0 rect.w first.1 in
    let left = ltb-true rect.x width tests.1 in
    let both = units-IsPart rect.x (min (rect.x + rect.w) width - 1) p width some whole (omega arith) (omega arith) in
    record { some = both.0; within = both.1 })
    (λ e. tt)

cons-sized : (width : ℕ) (o : Option Part) (parts : List Part) → IsRowPart width o → All (IsPart width) parts →
    All (IsPart width) (cons_option o parts)
cons-sized width None parts one all = all
cons-sized width (Some part) parts one all = All-cons (IsPart width) _ _ one all

pub parts_sized : (rects : List Rect) (row width p : ℕ) → 0 < p → width % p ≡ 0 → All (IsPart width) (parts_of rects row width p)
parts_sized [] row width p some whole = λ k d within. absurd (omega arith)
parts_sized (rect ∷ rest) row width p some whole =
    cons-sized width (part_of row width p rect) (parts_of rest row width p) (part_of-IsRowPart rect row width p some whole)
    (parts_sized rest row width p some whole)
