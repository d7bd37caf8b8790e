-- The rows of a plane of chroma, counted row by row, and how many there are by default.
use Rattle.std.proofs.Common.{◌≡◌, ℕ, zero, suc, ◌+◌, ◌*◌, ◌/◌, ◌%◌, Bool, true, false, List, [], ◌∷◌, map, Option, Some, None, refl, sym}
use Rattle.std.proofs.Common.{ap, ◌∙◌, arith, if◌then◌else◌}
use Rattle.std.specs.Prelude.{max, ◌==◌}
use Rattle.std.specs.Int.{div_ceil}
use Rattle.std.specs.List.{range_with_len}
use Rattle.std.proofs.lemmas.Bool.{eqb-true, eqb-false}
use Rattle.pixel_layout.specs.declared.Format.{Format}
use Rattle.pixel_layout.specs.declared.Format.TheVariants.{Rgb32, Rgb24, Rgb16, Rgb15, Yuy2, Y8, Rgb8, BtYuv, Yuv422p, Yuv411p, Yuv420p}
use Rattle.pixel_layout.specs.declared.Format.TheVariants.{Yuv410p}
use Rattle.pixel_layout.specs.Layouts.{Layout, chroma_row, chroma_row_from, layout}
use Rattle.capture_desc.specs.declared.desc.Desc.{Desc}
use Rattle.picture_model.specs.Described.{both, chroma_height, chroma_row_of, field_number, field_of, layout_of, rows_for}

rows_cons : (o : Option ℕ) (rest : List (Option ℕ)) → rows_for (o ∷ rest) ≡ max (rows_for (o ∷ [])) (rows_for rest)
rows_cons None rest = omega arith
rows_cons (Some row) rest = omega arith

-- one more row of the picture
pub rows_more : (f : ℕ → Option ℕ) (from count : ℕ) → rows_for (map f (range_with_len from (suc count)))
    ≡ max (rows_for (map f (range_with_len from count))) (rows_for (f (from + count) ∷ []))
rows_more f from zero =
    let same : from + 0 ≡ from = omega arith in
    let row : rows_for (f (from + 0) ∷ []) ≡ rows_for (f from ∷ []) = ap (λ (n : ℕ). rows_for (f n ∷ [])) same in omega arith
rows_more f from (suc count) =
    let first = rows_cons (f from) (map f (range_with_len (from + 1) (suc count))) in
    let again = rows_cons (f from) (map f (range_with_len (from + 1) count)) in
    let more = rows_more f (from + 1) count in
    let same : from + 1 + count ≡ from + suc count = omega arith in
    let last : rows_for (f (from + 1 + count) ∷ []) ≡ rows_for (f (from + suc count) ∷ []) = ap (λ (n : ℕ). rows_for (f n ∷ [])) same in
    omega arith

rows_next : (f : ℕ → Option ℕ) (n : ℕ) →
    rows_for (map f (range_with_len 0 (suc n))) ≡ max (rows_for (map f (range_with_len 0 n))) (rows_for (f n ∷ []))
rows_next f n =
    let same : 0 + n ≡ n = omega arith in
    rows_more f 0 n ∙ ap (λ (k : ℕ). max (rows_for (map f (range_with_len 0 n))) (rows_for (f k ∷ []))) same

-- ---- by default

-- a row that is kept, or none
abbrev kept : Bool → ℕ → Option ℕ
kept test place = if test then Some place else None

abbrev rows_if : Bool → ℕ → ℕ
rows_if test rows = if test then rows else 0

kept_rows : (test : Bool) (place : ℕ) → rows_for (kept test place ∷ []) ≡ rows_if test (place + 1)
kept_rows true place = omega arith
kept_rows false place = refl

-- a row of chroma for so many rows of a field, the last of them maybe for fewer
record IsStep (v : ℕ) : Type 0 where
  none : div_ceil 0 v ≡ 0
  next : (n : ℕ) → max (div_ceil n v) (rows_if (n % v == 0) (n / v + 1)) ≡ div_ceil (n + 1) v

next_by : (v n : ℕ) (test : Bool) → (n % v == 0) ≡ test → max (div_ceil n v) (rows_if test (n / v + 1)) ≡ div_ceil (n + 1) v →
    max (div_ceil n v) (rows_if (n % v == 0) (n / v + 1)) ≡ div_ceil (n + 1) v
next_by v n test is known = ap (λ (test : Bool). max (div_ceil n v) (rows_if test (n / v + 1))) is ∙ known

one : IsStep 1
one = record { none = omega arith; next = λ n. by n (n % 1 == 0) refl }
  where
    by : (n : ℕ) (test : Bool) → (n % 1 == 0) ≡ test → max (div_ceil n 1) (rows_if (n % 1 == 0) (n / 1 + 1)) ≡ div_ceil (n + 1) 1
    by n true is = next_by 1 n true is (omega arith)
    by n false is = let other = eqb-false (n % 1) 0 is in absurd (other (omega arith))

two : IsStep 2
two = record { none = omega arith; next = λ n. by n (n % 2 == 0) refl }
  where
    by : (n : ℕ) (test : Bool) → (n % 2 == 0) ≡ test → max (div_ceil n 2) (rows_if (n % 2 == 0) (n / 2 + 1)) ≡ div_ceil (n + 1) 2
    by n true is = next_by 2 n true is (let first = eqb-true (n % 2) 0 is in omega arith)
    by n false is = next_by 2 n false is (let other = eqb-false (n % 2) 0 is in omega arith)

four : IsStep 4
four = record { none = omega arith; next = λ n. by n (n % 4 == 0) refl }
  where
    by : (n : ℕ) (test : Bool) → (n % 4 == 0) ≡ test → max (div_ceil n 4) (rows_if (n % 4 == 0) (n / 4 + 1)) ≡ div_ceil (n + 1) 4
    by n true is = next_by 4 n true is (let first = eqb-true (n % 4) 0 is in omega arith)
    by n false is = next_by 4 n false is (let other = eqb-false (n % 4) 0 is in omega arith)

down_steps : (format : Format) → IsStep (layout format).down
down_steps Rgb32 = one
down_steps Rgb24 = one
down_steps Rgb16 = one
down_steps Rgb15 = one
down_steps Yuy2 = one
down_steps Y8 = one
down_steps Rgb8 = one
down_steps BtYuv = one
down_steps Yuv422p = one
down_steps Yuv411p = one
down_steps Yuv420p = two
down_steps Yuv410p = four

module _ (v : ℕ) (steps : IsStep v) (f : ℕ → Option ℕ) where
  -- the rows of one field
  one_field : ((row : ℕ) → f row ≡ kept (row % v == 0) (row / v)) → (n : ℕ) → rows_for (map f (range_with_len 0 n)) ≡ div_ceil n v
  one_field is zero = sym steps.none
  one_field is (suc n) =
      let more = rows_next f n in
      let so_far = one_field is n in
      let last : rows_for (f n ∷ []) ≡ rows_if (n % v == 0) (n / v + 1) =
      ap (λ (o : Option ℕ). rows_for (o ∷ [])) (is n) ∙ kept_rows (n % v == 0) (n / v) in
      let next = steps.next n in
      let same : n + 1 ≡ suc n = omega arith in
      more ∙ ap (λ (rows : ℕ). max rows (rows_for (f n ∷ []))) so_far ∙ ap (λ (rows : ℕ). max (div_ceil n v) rows) last ∙ next
      ∙ ap (λ (m : ℕ). div_ceil m v) same

  pair_by : (test : Bool) (first last a b place : ℕ) → max first (rows_if test (place + 1)) ≡ last → a ≡ rows_if test (2 * place + 0 + 1) →
      b ≡ rows_if test (2 * place + 1 + 1) →
      max (max (2 * first) a) b ≡ 2 * last
  pair_by true first last a b place next is other = omega arith
  pair_by false first last a b place next is other = omega arith

  -- the rows of two fields, which take turns
  two_fields : ((row : ℕ) → f row ≡ kept (row / 2 % v == 0) (2 * (row / 2 / v) + row % 2)) → (m n : ℕ) → n ≡ 2 * m →
      rows_for (map f (range_with_len 0 n)) ≡ 2 * div_ceil m v
  two_fields is zero zero e = sym (ap (λ (rows : ℕ). 2 * rows) steps.none)
  two_fields is zero (suc n) e = absurd (omega arith)
  two_fields is (suc m) zero e = absurd (omega arith)
  two_fields is (suc m) (suc zero) e = absurd (omega arith)
  two_fields is (suc m) (suc (suc n)) e =
      let half : n / 2 ≡ m = omega arith in
      let even : n % 2 ≡ 0 = omega arith in
      let half' : suc n / 2 ≡ m = omega arith in
      let odd : suc n % 2 ≡ 1 = omega arith in
      let top : rows_for (f n ∷ []) ≡ rows_if (m % v == 0) (2 * (m / v) + 0 + 1) =
      ap (λ (o : Option ℕ). rows_for (o ∷ [])) (is n ∙ (λ i. kept (half i % v == 0) (2 * (half i / v) + even i)))
      ∙ kept_rows (m % v == 0) (2 * (m / v) + 0) in
      let bottom : rows_for (f (suc n) ∷ []) ≡ rows_if (m % v == 0) (2 * (m / v) + 1 + 1) =
      ap (λ (o : Option ℕ). rows_for (o ∷ [])) (is (suc n) ∙ (λ i. kept (half' i % v == 0) (2 * (half' i / v) + odd i)))
      ∙ kept_rows (m % v == 0) (2 * (m / v) + 1) in
      let so_far = two_fields is m n (omega arith) in
      let same : m + 1 ≡ suc m = omega arith in
      rows_next f (suc n)
      ∙ ap (λ (rows : ℕ). max rows (rows_for (f (suc n) ∷ []))) (rows_next f n ∙ ap (λ (rows : ℕ). max rows (rows_for (f n ∷ []))) so_far)
      ∙ pair_by (m % v == 0) (div_ceil m v) (div_ceil (m + 1) v) _ _ (m / v) (steps.next m) top bottom
      ∙ ap (λ (k : ℕ). 2 * div_ceil k v) same

-- the rows of a plane of chroma where no first row is given
abbrev pub default_rows : ℕ → Bool → ℕ → ℕ
default_rows v two height = if two then 2 * div_ceil (height / 2) v else div_ceil height v

rows_by : (l : Layout) (two : Bool) (height : ℕ) → IsStep l.down → l.planar ≡ true → (two ≡ true → height % 2 ≡ 0) →
    rows_for (map (chroma_row l two) (range_with_len 0 height)) ≡ default_rows l.down two height
rows_by l true height steps planar even =
    let none = even refl in
    two_fields l.down steps (chroma_row l true)
    (λ row. ap (λ (b : Bool). if b then kept (row / 2 % l.down == 0) (2 * (row / 2 / l.down) + row % 2) else None) planar)
    (height / 2) height (omega arith)
rows_by l false height steps planar even =
    one_field l.down steps (chroma_row l false)
    (λ row. ap (λ (b : Bool). if b then kept (row % l.down == 0) (row / l.down) else None) planar) height

pub chroma_height-default : (d : Desc) → d.chroma_first ≡ None → (layout_of d).planar ≡ true → (both d ≡ true → d.height % 2 ≡ 0) →
    chroma_height d ≡ default_rows (layout_of d).down (both d) d.height
chroma_height-default d none planar even =
    let first : chroma_row_of d ≡ chroma_row (layout_of d) (both d) =
    (λ i row. chroma_row_from (layout_of d) (both d) (field_number (none i) d.fields (field_of d.fields row)) row) in
    ap (λ (f : ℕ → Option ℕ). rows_for (map f (range_with_len 0 d.height))) first
    ∙ rows_by (layout_of d) (both d) d.height (down_steps d.format) planar even
