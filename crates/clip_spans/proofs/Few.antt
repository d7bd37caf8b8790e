-- Each rectangle adds at most two spans to a row.
use Rattle.std.proofs.Common.{◌≡◌, ℕ, ◌+◌, ◌*◌, ◌%◌, ◌<◌, ◌≤◌, Bool, true, false, ◌||◌, List, [], ◌∷◌, ◌++◌, length, length-append, Option}
use Rattle.std.proofs.Common.{Some, None, refl, ◌∙◌, ap, subst, arith, if◌then◌else◌, inl, inr}
use Rattle.std.specs.Prelude.{max, nat_le, nat_lt}
use Rattle.std.specs.List.{cons_option}
use Rattle.std.proofs.lemmas.Bool.{cond_both, leb-true, leb-false, cases_lt}
use Rattle.clip_spans.specs.Clipping.{clipped_at}
use Rattle.clip_spans.specs.Runs.{span, AreRunsFrom, spans_of}
use Rattle.clip_spans.specs.Parts.{inside, is_inside, IsPart, AreInOrder, part_of, parts_of, unless_empty}
use Rattle.clip_spans.specs.declared.Part.{Part}
use Rattle.clip_spans.specs.declared.Rect.{Rect}
use Rattle.clip_spans.specs.declared.Span.{Span}
use Rattle.clip_spans.proofs.Covered.{IsRowPart, part_of-IsRowPart, parts_say}
use Rattle.clip_spans.proofs.Merging.{IsMerged, merged_first, merged_gap, merged_joined, merged_last}
use Rattle.clip_spans.proofs.Runs.{only_spans, runs_along}

-- a part among parts in order
abbrev pub placed : Part → List Part → List Part
placed p [] = p ∷ []
placed p (q ∷ rest) = if nat_le p.from q.from then p ∷ q ∷ rest else q ∷ placed p rest

abbrev pub placed_option : Option Part → List Part → List Part
placed_option None parts = parts
placed_option (Some p) parts = placed p parts

placed-in_order : (width low : ℕ) (p : Part) (parts : List Part) → low ≤ p.from → IsPart width p → AreInOrder width low parts →
    AreInOrder width low (placed p parts)
placed-in_order width low p [] above is order = (above, is, tt)
placed-in_order width low p (q ∷ rest) above is order =
    cond_both (nat_le p.from q.from) (p ∷ q ∷ rest) (q ∷ placed p rest) (AreInOrder width low)
    (λ e. (above, is, (leb-true p.from q.from e, order.1, order.2)))
    (λ e. let after = leb-false p.from q.from e in (order.0, order.1, placed-in_order width q.from p rest (omega arith) is order.2))

or_swap : (a b c : Bool) → (a || (b || c)) ≡ (b || (a || c))
or_swap true true c = refl
or_swap true false c = refl
or_swap false b c = refl

placed-inside : (x : ℕ) (p : Part) (parts : List Part) → is_inside (placed p parts) x ≡ (inside x p || is_inside parts x)
placed-inside x p [] = refl
placed-inside x p (q ∷ rest) =
    cond_both (nat_le p.from q.from) (p ∷ q ∷ rest) (q ∷ placed p rest)
    (λ (parts : List Part). is_inside parts x ≡ (inside x p || is_inside (q ∷ rest) x))
    (λ e. refl)
    (λ e. ap (λ b. inside x q || b) (placed-inside x p rest) ∙ or_swap (inside x q) (inside x p) (is_inside rest x))

placed-length : (p : Part) (parts : List Part) → length (placed p parts) ≡ length parts + 1
placed-length p [] = omega arith
placed-length p (q ∷ rest) =
    cond_both (nat_le p.from q.from) (p ∷ q ∷ rest) (q ∷ placed p rest) (λ (parts : List Part). length parts ≡ length (q ∷ rest) + 1)
    (λ e. omega arith)
    (λ e. let later = placed-length p rest in omega arith)

-- the parts of a row in order
record IsOrdered (width count : ℕ) (parts : List Part) (ordered : List Part) : Type 0 where
  order : AreInOrder width 0 ordered
  same : (x : ℕ) → is_inside ordered x ≡ is_inside parts x
  few : length ordered ≤ count

one_more_ordered : (width count : ℕ) (o : Option Part) (parts ordered : List Part) → IsRowPart width o →
    IsOrdered width count parts ordered → IsOrdered width (count + 1) (cons_option o parts) (placed_option o ordered)
one_more_ordered width count None parts ordered is done =
    record { order = done.order; same = done.same; few = let few = done.few in omega arith }
one_more_ordered width count (Some p) parts ordered is done =
    record {
      order = placed-in_order width 0 p ordered (omega arith) is done.order;
      same = λ x. placed-inside x p ordered ∙ ap (λ b. inside x p || b) (done.same x);
      few = let few = done.few in let e = placed-length p ordered in omega arith;
    }

abbrev ordered_parts : List Rect → ℕ → ℕ → ℕ → List Part
ordered_parts [] row width pixels = []
ordered_parts (rect ∷ rest) row width pixels =
    placed_option (part_of row width pixels rect) (ordered_parts rest row width pixels)

are_ordered : (rects : List Rect) (row width p : ℕ) → 0 < p → width % p ≡ 0 →
    IsOrdered width (length rects) (parts_of rects row width p) (ordered_parts rects row width p)
are_ordered [] row width p some whole = record { order = tt; same = λ x. refl; few = omega arith }
are_ordered (rect ∷ rest) row width p some whole =
    subst (λ n. IsOrdered width n (parts_of (rect ∷ rest) row width p) (ordered_parts (rect ∷ rest) row width p)) (omega arith)
    (one_more_ordered width (length rest) (part_of row width p rect) (parts_of rest row width p) (ordered_parts rest row width p)
    (part_of-IsRowPart rect row width p some whole) (are_ordered rest row width p some whole))

at_most_one : (start finish : ℕ) (answer : Bool) → length (unless_empty start finish answer) ≤ 1
at_most_one start finish answer =
    cond_both (nat_lt start finish) (span start finish answer ∷ []) [] (λ (spans : List Span). length spans ≤ 1) (λ e. omega arith)
    (λ e. omega arith)

record SomeRuns (test : ℕ → Bool) (width most : ℕ) : Type 0 where
  spans : List Span
  runs : AreRunsFrom test width 0 spans
  few : length spans ≤ most

two_more : (out : List Span) (start done from width : ℕ) (a b : Bool) →
    length ((out ++ unless_empty start done a) ++ unless_empty from width b) ≤ length out + length (unless_empty start done a) + 1
two_more out start done from width a b =
    let one = at_most_one from width b in
    let e = length-append (out ++ unless_empty start done a) (unless_empty from width b) in
    let f = length-append out (unless_empty start done a) in
    omega arith

merged_runs : (test : ℕ → Bool) (width start done : ℕ) (out : List Span) (left : List Part) (most : ℕ) →
    IsMerged test width start done out left →
    length out + length (unless_empty start done true) + 2 * length left + 1 ≤ most → SomeRuns test width most
merged_runs test width start done out [] most merged fits =
    record {
      spans = (out ++ unless_empty start done true) ++ unless_empty done width false;
      runs = merged_last test width start done out merged;
      few = let more = two_more out start done done width true false in omega arith;
    }
merged_runs test width start done out (part ∷ left) most merged fits =
    elim (cases_lt done part.from) [
      | inl gap ↦
          let more = two_more out start done done part.from true false in
          let one = at_most_one part.from part.to true in
          merged_runs test width part.from part.to ((out ++ unless_empty start done true) ++ unless_empty done part.from false) left most
          (merged_gap test width start done out part left merged gap) (omega arith)
      | inr meets ↦
          let one = at_most_one start (max done part.to) true in
          merged_runs test width start (max done part.to) out left most (merged_joined test width start done out part left merged meets)
          (omega arith)
    ]

pub spans-few : (rects : List Rect) (row width p : ℕ) → 1 ≤ p → width % p ≡ 0 → length (spans_of rects row width p) ≤ 2 * length rects + 1
spans-few rects row width p some whole =
    let ordered = ordered_parts rects row width p in
    let is : IsOrdered width (length rects) (parts_of rects row width p) ordered = are_ordered rects row width p some whole in
    let few = is.few in
    let some_runs : SomeRuns (is_inside ordered) width (2 * length rects + 1) =
    merged_runs (is_inside ordered) width 0 0 [] ordered (2 * length rects + 1) (merged_first width ordered is.order) (omega arith)
    in
    let runs =
    runs_along (is_inside ordered) (clipped_at rects row p) width 0 some_runs.spans
    (λ x below. is.same x ∙ parts_say rects row width p x some whole below) some_runs.runs in
    let e = only_spans rects row width p some_runs.spans runs in
    subst (λ (spans : List Span). length spans ≤ 2 * length rects + 1) e some_runs.few
