-- The offsets of a picture's bytes: all are different, and lie in the memory.
use Rattle.std.proofs.Common.{◌≡◌, ℕ, zero, suc, ◌+◌, ◌*◌, ◌%◌, ◌<◌, ◌≤◌, Bool, true, false, ◌||◌, List, [], ◌∷◌, ◌++◌, map, Option, Some}
use Rattle.std.proofs.Common.{None, refl, sym, ap, ◌∙◌, subst, arith, ⊎_elim, if◌then◌else◌}
use Rattle.std.specs.Prelude.{max, min, option_map, ◌==◌}
use Rattle.std.specs.List.{list_any, range_with_len}
use Rattle.std.proofs.lemmas.Bool.{false≢true, ltb-false, eqb-true, or_parts, cases_lt}
use Rattle.std.proofs.lemmas.List.Folds.{list_any-append}
use Rattle.std.proofs.lemmas.Nat.{same_from_place, mul-le}
use Rattle.pixel_layout.specs.declared.Parity.{Parity}
use Rattle.pixel_layout.specs.declared.Parity.TheVariants.{Top, Bottom}
use Rattle.pixel_layout.specs.Layouts.{Layout, chroma_row_from, chroma_place, field_row, planes_of}
use Rattle.pixel_layout.proofs.Chroma.{place-own}
use Rattle.pixel_layout.proofs.Table.{layout_sizes}
use Rattle.page_table.specs.Grants.{total}
use Rattle.capture_desc.specs.declared.desc.Desc.{Desc}
use Rattle.capture_desc.specs.declared.desc.Fields.{Fields}
use Rattle.capture_desc.specs.declared.desc.Fields.TheVariants as fields
use Rattle.picture_model.specs.Described.{Extent, both, chroma_first, chroma_row_of, describes, extent, extents, field_of, fields_of}
use Rattle.picture_model.specs.Described.{highest_end, is_both, layout_of, lines_bytes, memory_of, offset, plane_bytes, plane_row_bytes}
use Rattle.picture_model.specs.Described.{plane_rows, rows_for, stride, vbi_area, vbi_offset, vbi_size, vbi_stride}
use Rattle.picture_model.specs.Geometry.{overlaps, some_overlap}
use Rattle.picture_model.specs.Places.{HasPlane, plane_row, row_offset, vbi_line_offset}
use Rattle.picture_model.proofs.FaultlessGeometry.{IsRight}

-- stretches that don't overlap

no_common : (e f : Extent) (o : ℕ) → overlaps e f ≡ false → e.from ≤ o → o < e.to → f.from ≤ o → o < f.to → ⊥
no_common e f o none e_from e_to f_from f_to =
    let apart = ltb-false (max e.from f.from) (min e.to f.to) none in absurd (omega arith)

none_in_mapped : (test : Extent → Bool) (f : ℕ → Extent) (from count q : ℕ) → list_any test (map f (range_with_len from count)) ≡ false →
    from ≤ q → q < from + count → test (f q) ≡ false
none_in_mapped test f from zero q none low high = absurd (omega arith)
none_in_mapped test f from (suc count) q none low high =
    let parts = or_parts (test (f from)) (list_any test (map f (range_with_len (from + 1) count))) none in
    ⊎_elim
    (λ after. none_in_mapped test f (from + 1) count q parts.1 (omega arith) (omega arith))
    (λ before. let same : from ≡ q = omega arith in subst (λ (n : ℕ). test (f n) ≡ false) same parts.0)
    (cases_lt from q)

-- one of a range of stretches, against the later ones and against others
record IsApart (f : ℕ → Extent) (from count : ℕ) (others : List Extent) : Type 0 where
  later : (p q : ℕ) → from ≤ p → p < q → q < from + count → overlaps (f p) (f q) ≡ false
  other : (p : ℕ) → from ≤ p → p < from + count → list_any (overlaps (f p)) others ≡ false
  rest : some_overlap others ≡ false

are_apart : (f : ℕ → Extent) (from count : ℕ) (others : List Extent) → some_overlap (map f (range_with_len from count) ++ others) ≡ false →
    IsApart f from count others
are_apart f from zero others none =
    record { later = λ p q low order high. absurd (omega arith); other = λ p low high. absurd (omega arith); rest = none }
are_apart f from (suc count) others none =
    let range = map f (range_with_len (from + 1) count) in
    let parts = or_parts (list_any (overlaps (f from)) (range ++ others)) (some_overlap (range ++ others)) none in
    let first =
    or_parts (list_any (overlaps (f from)) range) (list_any (overlaps (f from)) others)
    (sym (list_any-append (overlaps (f from)) range others) ∙ parts.0) in
    let more = are_apart f (from + 1) count others parts.1 in
    record {
      later = λ p q low order high. ⊎_elim
          (λ after. more.later p q (omega arith) order (omega arith))
          (λ before. let same : from ≡ p = omega arith in
          subst (λ (n : ℕ). overlaps (f n) (f q) ≡ false) same
          (none_in_mapped (overlaps (f from)) f (from + 1) count q first.0 (omega arith) (omega arith)))
          (cases_lt from p);
      other = λ p low high. ⊎_elim
          (λ after. more.other p (omega arith) (omega arith))
          (λ before. let same : from ≡ p = omega arith in subst (λ (n : ℕ). list_any (overlaps (f n)) others ≡ false) same first.1)
          (cases_lt from p);
      rest = more.rest;
    }

-- the highest end

pub end_in_mapped : (f : ℕ → Extent) (from count p : ℕ) (others : List Extent) → from ≤ p → p < from + count →
    (f p).to ≤ highest_end (map f (range_with_len from count) ++ others)
end_in_mapped f from zero p others low high = absurd (omega arith)
end_in_mapped f from (suc count) p others low high =
    ⊎_elim
    (λ after. let more = end_in_mapped f (from + 1) count p others (omega arith) (omega arith) in omega arith)
    (λ before. let same : from ≡ p = omega arith in let e : (f from).to ≡ (f p).to = ap (λ (n : ℕ). (f n).to) same in omega arith)
    (cases_lt from p)

pub end_of_others : (xs ys : List Extent) → highest_end ys ≤ highest_end (xs ++ ys)
end_of_others [] ys = omega arith
end_of_others (x ∷ xs) ys = let more = end_of_others xs ys in omega arith

pub area_end : (f : Parity → Extent) (which : Fields) (field : Parity) → describes which field ≡ true →
    (f field).to ≤ highest_end (map f (fields_of which))
area_end f fields.Top Top is = omega arith
area_end f fields.Bottom Bottom is = omega arith
area_end f fields.Both Top is = omega arith
area_end f fields.Both Bottom is = omega arith
area_end f fields.Top Bottom is = cc
area_end f fields.Bottom Top is = cc

none_of_areas : (test : Extent → Bool) (f : Parity → Extent) (which : Fields) (field : Parity) → describes which field ≡ true →
    list_any test (map f (fields_of which)) ≡ false → test (f field) ≡ false
none_of_areas test f fields.Top Top is none = (or_parts (test (f Top)) false none).0
none_of_areas test f fields.Bottom Bottom is none = (or_parts (test (f Bottom)) false none).0
none_of_areas test f fields.Both Top is none = (or_parts (test (f Top)) (test (f Bottom) || false) none).0
none_of_areas test f fields.Both Bottom is none =
    (or_parts (test (f Bottom)) false (or_parts (test (f Top)) (test (f Bottom) || false) none).1).0
none_of_areas test f fields.Top Bottom is none = cc
none_of_areas test f fields.Bottom Top is none = cc

-- of two areas with an offset in common
same_area : (f : Parity → Extent) (which : Fields) (field other : Parity) (o : ℕ) → describes which field ≡ true →
    describes which other ≡ true → some_overlap (map f (fields_of which)) ≡ false →
    (f field).from ≤ o → o < (f field).to → (f other).from ≤ o → o < (f other).to → field ≡ other
same_area f which Top Top o is is' none f_from f_to o_from o_to = refl
same_area f which Bottom Bottom o is is' none f_from f_to o_from o_to = refl
same_area f fields.Both Top Bottom o is is' none f_from f_to o_from o_to =
    absurd (no_common (f Top) (f Bottom) o (or_parts _ false (or_parts _ _ none).0).0 f_from f_to o_from o_to)
same_area f fields.Both Bottom Top o is is' none f_from f_to o_from o_to =
    absurd (no_common (f Top) (f Bottom) o (or_parts _ false (or_parts _ _ none).0).0 o_from o_to f_from f_to)
same_area f fields.Top Top Bottom o is is' none f_from f_to o_from o_to = cc
same_area f fields.Top Bottom Top o is is' none f_from f_to o_from o_to = cc
same_area f fields.Bottom Top Bottom o is is' none f_from f_to o_from o_to = cc
same_area f fields.Bottom Bottom Top o is is' none f_from f_to o_from o_to = cc

pub extent_within : (d : Desc) (plane : ℕ) → IsRight d → HasPlane d plane → offset d plane + plane_bytes d plane ≤ total (memory_of d)
extent_within d plane right has =
    let low = has.low in let high = has.high in
    let end = end_in_mapped (extent d) 1 (planes_of (layout_of d)) plane (map (vbi_area d) (fields_of d.fields)) low (omega arith) in
    let enough = right.enough in omega arith

pub area_within : (d : Desc) (field : Parity) → IsRight d → describes d.fields field ≡ true →
    vbi_offset d field + vbi_size d ≤ total (memory_of d)
area_within d field right is =
    let end = area_end (vbi_area d) d.fields field is in
    let more = end_of_others (extents d) (map (vbi_area d) (fields_of d.fields)) in
    let enough = right.enough in omega arith

-- the rows of a plane

kept_parts : (planar kept : Bool) (at c : ℕ) → (if planar then (if kept then Some at else None) else None) ≡ Some c →
    (planar ≡ true) × (kept ≡ true) × (at ≡ c)
kept_parts true true at c is = (refl, refl, cc)
kept_parts true false at c is = cc
kept_parts false kept at c is = cc

pub record IsKept (l : Layout) (two : Bool) (first row c : ℕ) : Type 0 where
  pub planar : l.planar ≡ true
  pub kept : field_row two row % l.down ≡ first
  pub at : chroma_place l.down two row ≡ c

pub chroma_row-IsKept : (l : Layout) (two : Bool) (first row c : ℕ) → chroma_row_from l two first row ≡ Some c → IsKept l two first row c
chroma_row-IsKept l two first row c is =
    let parts = kept_parts l.planar (field_row two row % l.down == first) (chroma_place l.down two row) c is in
    record { planar = parts.0; kept = eqb-true _ _ parts.1; at = parts.2 }

first_for : (o : Option ℕ) (rest : List (Option ℕ)) (c : ℕ) → o ≡ Some c → c < rows_for (o ∷ rest)
first_for None rest c is = cc
first_for (Some row) rest c is = let same : row ≡ c = cc in omega arith

later_for : (o : Option ℕ) (rest : List (Option ℕ)) (c : ℕ) → c < rows_for rest → c < rows_for (o ∷ rest)
later_for None rest c below = below
later_for (Some row) rest c below = omega arith

-- there are enough rows for each
below_rows : (f : ℕ → Option ℕ) (from count k c : ℕ) → from ≤ k → k < from + count → f k ≡ Some c →
    c < rows_for (map f (range_with_len from count))
below_rows f from zero k c low high is = absurd (omega arith)
below_rows f from (suc count) k c low high is =
    let rest = map f (range_with_len (from + 1) count) in
    ⊎_elim
    (λ after. later_for (f from) rest c (below_rows f (from + 1) count k c (omega arith) (omega arith) is))
    (λ before. let same : from ≡ k = omega arith in first_for (f from) rest c (ap f same ∙ is))
    (cases_lt from k)

-- rows of the same parity are of one field
same_field : (which : Fields) (row other : ℕ) → (is_both which ≡ true → row % 2 ≡ other % 2) → field_of which row ≡ field_of which other
same_field fields.Top row other same = refl
same_field fields.Bottom row other same = refl
same_field fields.Both row other same = ap (λ (n : ℕ). if n == 0 then Top else Bottom) (same refl)

-- plane 1 holds the picture's rows themselves
below_by : (first : Bool) (row c height rows : ℕ) (chroma : Option ℕ) → (if first then Some row else chroma) ≡ Some c → row < height →
    (chroma ≡ Some c → c < rows) → c < (if first then height else rows)
below_by true row c height rows chroma is below more = let same : row ≡ c = cc in omega arith
below_by false row c height rows chroma is below more = more is

own_by : (first : Bool) (row other c : ℕ) (chroma chroma' : Option ℕ) → (if first then Some row else chroma) ≡ Some c →
    (if first then Some other else chroma') ≡ Some c → (chroma ≡ Some c → chroma' ≡ Some c → row ≡ other) → row ≡ other
own_by true row other c chroma chroma' is is' more = cc
own_by false row other c chroma chroma' is is' more = more is is'

pub plane_row-below : (d : Desc) (plane row c : ℕ) → row < d.height → plane_row d plane row ≡ Some c → c < plane_rows d plane
plane_row-below d plane row c below is =
    below_by (plane == 1) row c d.height _ (chroma_row_of d row) is below
    (λ chroma. below_rows (chroma_row_of d) 0 d.height row c (omega arith) (omega arith) chroma)

pub plane_row-own : (d : Desc) (plane row other c : ℕ) → plane_row d plane row ≡ Some c → plane_row d plane other ≡ Some c → row ≡ other
plane_row-own d plane row other c is is' =
    own_by (plane == 1) row other c (chroma_row_of d row) (chroma_row_of d other) is is'
    (λ chroma chroma'.
    let first = λ (n : ℕ). chroma_first d (field_of d.fields n) in
    let kept = chroma_row-IsKept (layout_of d) (both d) (first row) row c chroma in
    let kept' = chroma_row-IsKept (layout_of d) (both d) (first other) other c chroma' in
    let same : (both d ≡ true → row % 2 ≡ other % 2) → first row ≡ first other =
    λ parity. ap (chroma_first d) (same_field d.fields row other parity) in
    place-own (layout_of d).down (both d) row other (first row) (first other) (layout_sizes d.format).some_down kept.kept kept'.kept
    (λ one. same (λ two. absurd (false≢true (sym one ∙ two)))) (λ two parity. same (λ _. parity)) (kept.at ∙ sym kept'.at))

-- where a row begins
pub record IsRowAt (d : Desc) (plane row from : ℕ) : Type 0 where
  pub number : ℕ
  pub held : plane_row d plane row ≡ Some number
  pub at : from ≡ offset d plane + number * stride d plane

pub mapped_some : (f : ℕ → ℕ) (o : Option ℕ) (y : ℕ) → option_map f o ≡ Some y → (x : ℕ) × (o ≡ Some x) × (f x ≡ y)
mapped_some f None y is = cc
mapped_some f (Some x) y is = let same : f x ≡ y = cc in (x, refl, same)

pub row_offset-IsRowAt : (d : Desc) (plane row from : ℕ) → row_offset d plane row ≡ Some from → IsRowAt d plane row from
row_offset-IsRowAt d plane row from is =
    let found = mapped_some (λ kept. offset d plane + kept * stride d plane) (plane_row d plane row) from is in
    record { number = found.0; held = found.1; at = sym found.2 }

pub line_within : (lines step bytes line : ℕ) → line < lines → line * step + bytes ≤ lines_bytes lines step bytes
line_within zero step bytes line below = absurd (omega arith)
line_within (suc more) step bytes line below =
    let before = mul-le line step more step (omega arith) (omega arith) in omega arith

pub row_within : (d : Desc) (plane row from : ℕ) → row < d.height → IsRowAt d plane row from →
    (offset d plane ≤ from) × (from + plane_row_bytes d plane ≤ offset d plane + plane_bytes d plane)
row_within d plane row from below is =
    let at = is.at in
    let last =
    line_within (plane_rows d plane) (stride d plane) (plane_row_bytes d plane) is.number
    (plane_row-below d plane row is.number below is.held) in
    (omega arith, omega arith)

-- the bytes of a line that lies in the memory
pub row_end : (d : Desc) (plane row from : ℕ) → IsRight d → HasPlane d plane → row < d.height → IsRowAt d plane row from →
    from + plane_row_bytes d plane ≤ total (memory_of d)
row_end d plane row from right has below is =
    let within = row_within d plane row from below is in
    let all = extent_within d plane right has in omega arith

pub vbi_end : (d : Desc) (field : Parity) (line : ℕ) → IsRight d → describes d.fields field ≡ true → line < d.vbi_lines →
    vbi_line_offset d field line + d.vbi_bytes ≤ total (memory_of d)
vbi_end d field line right is below =
    let all = area_within d field right is in
    let within = line_within d.vbi_lines (vbi_stride d) d.vbi_bytes line below in omega arith

-- different bytes have different offsets

pub rows_differ : (d : Desc) (plane row other from from' x y : ℕ) → IsRight d → HasPlane d plane → IsRowAt d plane row from →
    IsRowAt d plane other from' → x < plane_row_bytes d plane →
    y < plane_row_bytes d plane → from + x ≡ from' + y → (row ≡ other) × (x ≡ y)
rows_differ d plane row other from from' x y right has is is' x_in y_in same =
    let at = is.at in let at' = is'.at in
    let wide = right.rows_apart plane has.low has.high in
    let parts = same_from_place is.number x is'.number y (stride d plane) (omega arith) (omega arith) (omega arith) in
    let held : plane_row d plane other ≡ Some is.number = is'.held ∙ ap (λ (n : ℕ). Some n) (sym parts.0) in
    (plane_row-own d plane row other is.number is.held held, parts.1)

module _ (d : Desc) (right : IsRight d) where
  apart : IsApart (extent d) 1 (planes_of (layout_of d)) (map (vbi_area d) (fields_of d.fields))
  apart = are_apart (extent d) 1 (planes_of (layout_of d)) (map (vbi_area d) (fields_of d.fields)) right.parts_apart

  pub planes_differ : (plane other row row' from from' x y : ℕ) → HasPlane d plane → HasPlane d other → plane < other → row < d.height →
      row' < d.height → IsRowAt d plane row from →
      IsRowAt d other row' from' → x < plane_row_bytes d plane → y < plane_row_bytes d other → from + x ≡ from' + y → ⊥
  planes_differ plane other row row' from from' x y has has' order below below' is is' x_in y_in same =
      let one = row_within d plane row from below is in
      let two = row_within d other row' from' below' is' in
      let high = has'.high in
      no_common (extent d plane) (extent d other) (from + x) (apart.later plane other has.low order (omega arith)) (omega arith)
      (omega arith) (omega arith) (omega arith)

  pub plane_and_area : (plane : ℕ) (field : Parity) (o : ℕ) → HasPlane d plane → describes d.fields field ≡ true → offset d plane ≤ o →
      o < offset d plane + plane_bytes d plane →
      vbi_offset d field ≤ o → o < vbi_offset d field + vbi_size d → ⊥
  plane_and_area plane field o has is p_from p_to a_from a_to =
      let high = has.high in
      let none = apart.other plane has.low (omega arith) in
      no_common (extent d plane) (vbi_area d field) o
      (none_of_areas (overlaps (extent d plane)) (vbi_area d) d.fields field is none) p_from p_to a_from a_to

  pub areas_differ : (o : ℕ) (field other : Parity) → describes d.fields field ≡ true → describes d.fields other ≡ true →
      vbi_offset d field ≤ o → o < vbi_offset d field + vbi_size d →
      vbi_offset d other ≤ o → o < vbi_offset d other + vbi_size d → field ≡ other
  areas_differ o field other is is' f_from f_to o_from o_to =
      same_area (vbi_area d) d.fields field other o is is' apart.rest f_from f_to o_from o_to
