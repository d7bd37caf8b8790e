-- Parts in order are joined to the runs of the pixels inside.
use Rattle.std.proofs.Common.{◌≡◌, ℕ, ◌+◌, ◌<◌, ◌≤◌, Bool, true, false, ◌||◌, List, [], ◌∷◌, ◌++◌, refl, sym, ◌∙◌, ap, subst, append_assoc}
use Rattle.std.proofs.Common.{arith, length, get_or, drop, add-one, drop-cons, inl, inr}
use Rattle.std.specs.Prelude.{max, nat_le, nat_lt}
use Rattle.std.proofs.lemmas.Bool.{cond_both, cond-true, lt-leb, le-leb, le-ltb, lt-ltb, ltb-true, ltb-false, or_from, or_left, and_left}
use Rattle.std.proofs.lemmas.Bool.{and_right, and_from, cases_lt}
use Rattle.std.proofs.lemmas.List.{drop_all}
use Rattle.clip_spans.specs.Runs.{span, AreRunsFrom}
use Rattle.clip_spans.specs.Parts.{inside, is_inside, AreInOrder, unless_empty}
use Rattle.clip_spans.specs.declared.Part.{Part}
use Rattle.clip_spans.specs.declared.Span.{Span}

pub in_order_from : (width low lower : ℕ) (parts : List Part) → lower ≤ low → AreInOrder width low parts → AreInOrder width lower parts
in_order_from width low lower [] less order = tt
in_order_from width low lower (part ∷ rest) less order = (omega arith, order.1, order.2)

none_before : (width low x : ℕ) (parts : List Part) → AreInOrder width low parts → x < low → is_inside parts x ≡ false
none_before width low x [] order before = refl
none_before width low x (part ∷ rest) order before =
    or_from (inside x part) (is_inside rest x) (and_left _ _ (lt-leb part.from x (omega arith)))
    (none_before width part.from x rest order.2 (omega arith))

-- the spans so far, where those from `start` on are not out yet, the pixels from `start` up to `done` are inside,
-- and the parts that are left hold of the pixels from `done` on
pub record IsMerged (test : ℕ → Bool) (width start done : ℕ) (out : List Span) (left : List Part) : Type 0 where
  pub begun : start ≤ done
  pub within : done ≤ width
  pub solid : (x : ℕ) → start ≤ x → x < done → test x ≡ true
  pub rest : (x : ℕ) → done ≤ x → test x ≡ is_inside left x
  pub order : AreInOrder width 0 left
  pub goes_on : (spans : List Span) → AreRunsFrom test width start spans → AreRunsFrom test width 0 (out ++ spans)

pub merged_first : (width : ℕ) (parts : List Part) → AreInOrder width 0 parts → IsMerged (is_inside parts) width 0 0 [] parts
merged_first width parts order =
    record {
      begun = omega arith;
      within = omega arith;
      solid = λ x from to. absurd (omega arith);
      rest = λ x from. refl;
      order = order;
      goes_on = λ spans runs. runs;
    }

module _ (test : ℕ → Bool) (width start done : ℕ) (out : List Span) where
  -- the span of the pixels that are known to be inside
  with_solid : (left : List Part) (spans : List Span) → IsMerged test width start done out left → (done < width → test done ≡ false) →
      AreRunsFrom test width done spans →
      AreRunsFrom test width 0 ((out ++ unless_empty start done true) ++ spans)
  with_solid left spans merged turns runs =
      let begun = merged.begun in
      let joins : AreRunsFrom test width start (unless_empty start done true ++ spans) =
      cond_both (nat_lt start done) (span start done true ∷ []) [] (λ (first : List Span). AreRunsFrom test width start (first ++ spans))
      (λ e. (refl, record { some = ltb-true start done e; within = merged.within; same = merged.solid; maximal = turns }, runs))
      (λ e. let none = ltb-false start done e in let same : done ≡ start = omega arith in
      subst (λ n. AreRunsFrom test width n spans) same runs)
      in
      subst (AreRunsFrom test width 0) (sym (append_assoc out (unless_empty start done true) spans)) (merged.goes_on _ joins)

  inside_first : (part : Part) (x : ℕ) → part.from ≤ x → x < part.to → inside x part ≡ true
  inside_first part x from to = and_from _ _ (le-leb part.from x from) (lt-ltb x part.to to)

  -- a part that begins after a gap
  pub merged_gap : (part : Part) (left : List Part) → IsMerged test width start done out (part ∷ left) → done < part.from →
      IsMerged test width part.from part.to ((out ++ unless_empty start done true) ++ unless_empty done part.from false) left
  merged_gap part left merged gap =
      let some = merged.order.1.some in
      let fits = merged.order.1.within in
      let free : (x : ℕ) → done ≤ x → x < part.from → test x ≡ false =
      λ x from to. merged.rest x from ∙ none_before width part.from x (part ∷ left) (omega arith, merged.order.1, merged.order.2) to
      in
      let solid : (x : ℕ) → part.from ≤ x → x < part.to → test x ≡ true =
      λ x from to. merged.rest x (omega arith) ∙ or_left (inside x part) (is_inside left x) (inside_first part x from to)
      in
      record {
        begun = omega arith;
        within = fits;
        solid = solid;
        rest =
            λ x from. merged.rest x (omega arith)
            ∙ ap (λ b. b || is_inside left x) (and_right (nat_le part.from x) (nat_lt x part.to) (le-ltb x part.to from));
        order = in_order_from width part.from 0 left (omega arith) merged.order.2;
        goes_on =
            λ spans runs. subst (AreRunsFrom test width 0)
            (sym (append_assoc (out ++ unless_empty start done true) (unless_empty done part.from false) spans))
            (with_solid (part ∷ left) (unless_empty done part.from false ++ spans) merged (λ below. free done (omega arith) gap)
            (subst (λ (first : List Span). AreRunsFrom test width done (first ++ spans))
            (sym (cond-true (nat_lt done part.from) (span done part.from false ∷ []) [] (lt-ltb done part.from gap)))
            (refl, record { some = gap; within = omega arith; same = free; maximal = λ below. solid part.from (omega arith) some }, runs)));
      }

  -- a part that touches the pixels so far, or overlaps them
  pub merged_joined : (part : Part) (left : List Part) → IsMerged test width start done out (part ∷ left) → part.from ≤ done →
      IsMerged test width start (max done part.to) out left
  merged_joined part left merged meets =
      let some = merged.order.1.some in
      let fits = merged.order.1.within in
      let begun = merged.begun in
      let within = merged.within in
      record {
        begun = omega arith;
        within = omega arith;
        solid = λ x from to. elim (cases_lt x done) [
          | inl before ↦ merged.solid x from before
          | inr later ↦ merged.rest x later ∙ or_left (inside x part) (is_inside left x) (inside_first part x (omega arith) (omega arith))
        ];
        rest =
            λ x from. merged.rest x (omega arith)
            ∙ ap (λ b. b || is_inside left x) (and_right (nat_le part.from x) (nat_lt x part.to) (le-ltb x part.to (omega arith)));
        order = in_order_from width part.from 0 left (omega arith) merged.order.2;
        goes_on = merged.goes_on;
      }

  -- no parts are left
  pub merged_last : IsMerged test width start done out [] →
      AreRunsFrom test width 0 ((out ++ unless_empty start done true) ++ unless_empty done width false)
  merged_last merged =
      let within = merged.within in
      with_solid [] (unless_empty done width false) merged (λ below. merged.rest done (omega arith))
      (cond_both (nat_lt done width) (span done width false ∷ []) [] (AreRunsFrom test width done)
      (λ e. (
        refl,
        record {
          some = ltb-true done width e;
          within = omega arith;
          same = λ x from to. merged.rest x from;
          maximal = λ below. absurd (omega arith);
        },
        refl,
      ))
      (λ e. let none = ltb-false done width e in omega arith))

pub merged_along : (test : ℕ → Bool) (width start done start' done' : ℕ) (out out' : List Span) (left : List Part) → start' ≡ start →
    done' ≡ done → out' ≡ out →
    IsMerged test width start done out left → IsMerged test width start' done' out' left
merged_along test width start done start' done' out out' left a b e merged =
    subst (λ (o : List Span). IsMerged test width start' done' o left) (sym e)
    (subst (λ n. IsMerged test width start' n out left) (sym b) (subst (λ n. IsMerged test width n done out left) (sym a) merged))

-- the part whose turn it is, before those after it
pub next_part : (parts : List Part) (k : ℕ) (d : Part) → k < length parts → drop k parts ≡ (get_or parts k d ∷ drop (k + 1) parts)
next_part parts k d within = rw (add-one, drop-cons parts k d)

pub none_left : (parts : List Part) (k : ℕ) → length parts ≤ k → drop k parts ≡ []
none_left parts k over = drop_all k parts over
