-- Of names in ascending order the first is the least.
use Rattle.std.proofs.Common.{◌≡◌, ℕ, Bool, true, false, List, [], ◌∷◌, Some, String, Global, string_bytes, Ordering, Less, Equal, Greater}
use Rattle.std.proofs.Common.{nat_cmp, refl, ap, subst, sym, ◌∙◌, inl, inr}
use Rattle.std.specs.Prelude.{unwrap_or, filter, not, Contains}
use Rattle.std.proofs.lemmas.Bool.{cases_Bool, false≢true}
use Rattle.std.proofs.lemmas.Cmp.{nat_list_cmp_total, tied_itself, upto}
use Rattle.std.proofs.lemmas.List.Elements.{All-contains, All-contains_itself, All-from_recursion, recursion_from_All}
use Rattle.std.specs.Cmp.Lexicographic.{slice_cmp}
use Rattle.std.specs.List.{AllByRecursion}
use Rattle.std.specs.List.Sorted.{IsStrictlySortedBy}
use Rattle.std.specs.Map.{keys_of}
use Rattle.std.specs.String.{string_cmp}
use Rattle.std.specs.Ordering.{is_gt, match_ordering, ordering_reverse}
use Rattle.toml.specs.Data.{Members}
use Rattle.toml.specs.View.{members_view}
use Rattle.toml.specs.declared.value.Value.{Value}
use Rattle.toml_keys.specs.Keys.{IsLeastUnknown, least, names, unknown_names}

-- the lesser of two names has what both have, and the least of a list what all have
lesser_has : (P : List ℕ → Type 0) (o : Ordering) (a b : List ℕ) → P a → P b → P (match_ordering o a a b)
lesser_has P Less a b has_a has_b = has_a
lesser_has P Equal a b has_a has_b = has_a
lesser_has P Greater a b has_a has_b = has_b

least_or_has : (P : List ℕ → Type 0) (names : List (List ℕ)) (other : List ℕ) → AllByRecursion P names → P other →
    P (unwrap_or (least names) other)
least_or_has P [] other all has = has
least_or_has P (first ∷ names) other all has =
    lesser_has P (slice_cmp nat_cmp first (unwrap_or (least names) first)) first _ all.0 (least_or_has P names first all.1 all.0)

least_has : (P : List ℕ → Type 0) (names : List (List ℕ)) (m : List ℕ) → AllByRecursion P names → least names ≡ Some m → P m
least_has P [] m all is = absurd (cc)
least_has P (first ∷ names) m all is =
    let same : unwrap_or (least (first ∷ names)) first ≡ m = ap (λ found. unwrap_or found first) is in
    subst P same (least_or_has P (first ∷ names) first all all.0)

-- the name comes before another
abbrev pub IsBefore : List ℕ → List ℕ → Type 0
IsBefore name other = slice_cmp nat_cmp name other ≡ Less

same : (o : Ordering) (name : List ℕ) → match_ordering o name name name ≡ name
same Less name = refl
same Equal name = refl
same Greater name = refl

pub least-first : (name : List ℕ) (names : List (List ℕ)) → AllByRecursion (IsBefore name) names → least (name ∷ names) ≡ Some name
least-first name [] all = ap Some (same (slice_cmp nat_cmp name name) name)
least-first name (first ∷ names) all =
    let before : IsBefore name (unwrap_or (least (first ∷ names)) name) = least_has (IsBefore name) (first ∷ names) _ all refl in
    rw before

module _ (is_known : List ℕ → Bool) where
  -- the names after a key that ascend from it
  pub unknown_after : (k : String Global) (es : List (String Global × Value)) → AllByRecursion (λ y. string_cmp k y ≡ Less) (keys_of es) →
      AllByRecursion (IsBefore (string_bytes k)) (unknown_names is_known (members_view es))
  unknown_after k [] all = tt
  unknown_after k (e ∷ es) all =
      elim (cases_Bool (is_known (string_bytes e.0))) [
        | inl known ↦ rw known (unknown_after k es all.1)
        | inr unknown ↦ rw unknown (all.0, unknown_after k es all.1)
      ]

  -- one turn over ascending entries
  pub next_known : (whole : List (List ℕ)) (before left : List (String Global × Value)) (e : String Global × Value) → before ≡ e ∷ left →
      is_known (string_bytes e.0) ≡ true →
      unknown_names is_known (members_view before) ≡ whole → unknown_names is_known (members_view left) ≡ whole
  next_known whole before left e turn known so_far =
      let now : unknown_names is_known (members_view (e ∷ left)) ≡ whole =
      ap (λ es. unknown_names is_known (members_view es)) (sym turn) ∙ so_far in
      rw known at now

  pub next_sorted : (before left : List (String Global × Value)) (e : String Global × Value) → before ≡ e ∷ left →
      IsStrictlySortedBy string_cmp (keys_of before) → IsStrictlySortedBy string_cmp (keys_of left)
  unfolding IsStrictlySortedBy
  next_sorted before left e turn sorted = let now = rw turn at sorted in now.1

  pub next_unknown : (whole : List (List ℕ)) (before left : List (String Global × Value)) (e : String Global × Value) → before ≡ e ∷ left →
      is_known (string_bytes e.0) ≡ false →
      unknown_names is_known (members_view before) ≡ whole → IsStrictlySortedBy string_cmp (keys_of before) →
      Some (string_bytes e.0) ≡ least whole
  unfolding IsStrictlySortedBy
  next_unknown whole before left e turn unknown so_far sorted =
      let now : unknown_names is_known (members_view (e ∷ left)) ≡ whole =
      ap (λ es. unknown_names is_known (members_view es)) (sym turn) ∙ so_far in
      let first : string_bytes e.0 ∷ unknown_names is_known (members_view left) ≡ whole = rw unknown at now in
      let ascends = rw turn at sorted in
      sym (least-first (string_bytes e.0) (unknown_names is_known (members_view left)) (unknown_after e.0 left ascends.0)) ∙ ap least first

-- no name is below the least
abbrev pub IsNotAbove : List ℕ → List ℕ → Type 0
IsNotAbove name other = is_gt (slice_cmp nat_cmp name other) ≡ false

not_above_all : (a m : List ℕ) (names : List (List ℕ)) → IsNotAbove a m → AllByRecursion (IsNotAbove m) names →
    AllByRecursion (IsNotAbove a) names
not_above_all a m [] low all = tt
not_above_all a m (n ∷ names) low all = (upto nat_list_cmp_total a m n low all.0, not_above_all a m names low all.1)

itself : (a : List ℕ) → IsNotAbove a a
itself a = ap is_gt (tied_itself nat_list_cmp_total a)

lesser_low : (o : Ordering) (a b : List ℕ) (names : List (List ℕ)) → o ≡ slice_cmp nat_cmp a b → AllByRecursion (IsNotAbove b) names →
    AllByRecursion (IsNotAbove (match_ordering o a a b)) (a ∷ names)
lesser_low Less a b names is all = (itself a, not_above_all a b names (ap is_gt (sym is)) all)
lesser_low Equal a b names is all = (itself a, not_above_all a b names (ap is_gt (sym is)) all)
lesser_low Greater a b names is all = (ap is_gt (nat_list_cmp_total.antisymm b a ∙ ap ordering_reverse (sym is)), all)

least_low : (names : List (List ℕ)) (other : List ℕ) → AllByRecursion (IsNotAbove (unwrap_or (least names) other)) names
least_low [] other = tt
least_low (first ∷ names) other =
    lesser_low (slice_cmp nat_cmp first (unwrap_or (least names) first)) first (unwrap_or (least names) first) names refl
    (least_low names first)

module _ (is_known : List ℕ → Bool) where
  -- what holds of the unknown names
  of_unknown : (Q : List ℕ → Type 0) (names : List (List ℕ)) → AllByRecursion Q (filter (λ name. not (is_known name)) names) →
      AllByRecursion (λ name. is_known name ≡ false → Q name) names
  of_unknown Q [] all = tt
  of_unknown Q (n ∷ names) all =
      elim (cases_Bool (is_known n)) [
        | inl known ↦ (let now = rw known at all in ((λ unknown. absurd (false≢true (sym unknown ∙ known))), of_unknown Q names now))
        | inr unknown ↦ (let now = rw unknown at all in ((λ _. now.0), of_unknown Q names now.1))
      ]

  to_unknown : (Q : List ℕ → Type 0) (names : List (List ℕ)) → AllByRecursion Q names →
      AllByRecursion (λ name. Q name × (is_known name ≡ false)) (filter (λ name. not (is_known name)) names)
  to_unknown Q [] all = tt
  to_unknown Q (n ∷ names) all =
      elim (cases_Bool (is_known n)) [
        | inl known ↦ rw known (to_unknown Q names all.1)
        | inr unknown ↦ rw unknown ((all.0, unknown), to_unknown Q names all.1)
      ]

  pub least-IsLeastUnknown : (ms : Members) (name : List ℕ) → least (unknown_names is_known ms) ≡ Some name →
      IsLeastUnknown is_known name ms
  least-IsLeastUnknown ms name is =
      let inside = recursion_from_All (Contains (names ms)) (names ms) (All-contains_itself (names ms)) in
      let has =
      least_has (λ n. Contains (names ms) n × (is_known n ≡ false)) (unknown_names is_known ms) name
      (to_unknown (Contains (names ms)) (names ms) inside) is in
      let low : AllByRecursion (IsNotAbove name) (unknown_names is_known ms) =
      subst (λ (m : List ℕ). AllByRecursion (IsNotAbove m) (unknown_names is_known ms))
      (ap (λ found. unwrap_or found name) is) (least_low (unknown_names is_known ms) name) in
      record {
        here = has.0;
        unknown = has.1;
        least = λ other there.
            All-contains (λ n. is_known n ≡ false → IsNotAbove name n) (names ms) other
            (All-from_recursion (λ n. is_known n ≡ false → IsNotAbove name n) (names ms) (of_unknown (IsNotAbove name) (names ms) low))
            there;
      }
