-- The runs of a test are one list, and alternate.
use Rattle.std.proofs.Common.{◌≡◌, ℕ, zero, suc, ◌+◌, ◌<◌, ◌≤◌, Bool, true, false, not, List, [], ◌∷◌, refl, sym, ◌∙◌, ap, subst, arith}
use Rattle.std.proofs.Common.{inl, inr}
use Rattle.std.proofs.lemmas.Bool.{cond_both, cases_order}
use Rattle.std.proofs.Math.Nat.{eq-or-lt_of_le}
use Rattle.clip_spans.specs.Clipping.{clipped_at, is_same}
use Rattle.clip_spans.specs.Runs.{span, IsRun, AreRunsFrom, AreSpans, Alternate, joined, runs_from, spans_of}
use Rattle.clip_spans.specs.declared.Rect.{Rect}
use Rattle.clip_spans.specs.declared.Span.{Span}

pub same_answer : (b c : Bool) → is_same b c ≡ true → b ≡ c
same_answer true true e = refl
same_answer true false e = cc
same_answer false true e = cc
same_answer false false e = refl

other_answer : (b c : Bool) → is_same b c ≡ false → c ≡ not b
other_answer true true e = cc
other_answer true false e = refl
other_answer false true e = refl
other_answer false false e = cc

pub never_both : (b : Bool) → b ≡ not b → ⊥
never_both true e = cc
never_both false e = cc

module _ (test : ℕ → Bool) (end : ℕ) where
  run_of_one : (x : ℕ) (answer : Bool) → x + 1 ≤ end → answer ≡ test x → (x + 1 < end → test (x + 1) ≡ not answer) →
      IsRun test end (span x (x + 1) answer)
  run_of_one x answer within e next =
      record {
        some = omega arith;
        within = within;
        same = λ y from to. let same : y ≡ x = omega arith in ap test same ∙ sym e;
        maximal = next;
      }

  run_with_one : (x : ℕ) (answer : Bool) (s : Span) → answer ≡ test x → answer ≡ s.clipped → s.from ≡ x + 1 → IsRun test end s →
      IsRun test end (span x s.to answer)
  run_with_one x answer s e joins begins run =
      record {
        some = let some = run.some in omega arith;
        within = run.within;
        same = λ y from to. elim (eq-or-lt_of_le from) [
          | inl here ↦ ap test (sym here) ∙ sym e
          | inr later ↦ run.same y (omega arith) to ∙ sym joins
        ];
        maximal = λ below. run.maximal below ∙ ap not (sym joins);
      }

  pub joined-runs : (x : ℕ) (answer : Bool) (spans : List Span) → answer ≡ test x → x + 1 ≤ end → AreRunsFrom test end (x + 1) spans →
      AreRunsFrom test end x (joined x answer spans)
  joined-runs x answer [] e within runs =
      (refl, run_of_one x answer within e (λ below. absurd (omega arith)), runs)
  joined-runs x answer (s ∷ rest) e within runs =
      cond_both (is_same answer s.clipped) (span x s.to answer ∷ rest) (span x (x + 1) answer ∷ s ∷ rest) (AreRunsFrom test end x)
      (λ same. (refl, run_with_one x answer s e (same_answer answer s.clipped same) runs.0 runs.1, runs.2))
      (λ other. (refl, run_of_one x answer within e (λ below. first_answer x s runs.0 runs.1 ∙ other_answer answer s.clipped other), runs))
    where
      first_answer : (x : ℕ) (s : Span) → s.from ≡ x + 1 → IsRun test end s → test (x + 1) ≡ s.clipped
      first_answer x s begins run = let some = run.some in run.same (x + 1) (omega arith) (omega arith)

  pub runs_from-runs : (count x : ℕ) → x + count ≡ end → AreRunsFrom test end x (runs_from test x count)
  runs_from-runs zero x e = omega arith
  runs_from-runs (suc count) x e =
      joined-runs x (test x) (runs_from test (x + 1) count) refl (omega arith) (runs_from-runs count (x + 1) (omega arith))

  first_is : (s : Span) → IsRun test end s → test s.from ≡ s.clipped
  first_is s run = run.same s.from (omega arith) run.some

  ends_later : (s t : Span) → s.from ≡ t.from → s.clipped ≡ t.clipped → IsRun test end s → IsRun test end t → s.to < t.to → ⊥
  ends_later s t begins answer one two later =
      let some = one.some in
      let within = two.within in
      let turns : test s.to ≡ not s.clipped = one.maximal (omega arith) in
      let goes_on : test s.to ≡ t.clipped = two.same s.to (omega arith) later in
      never_both s.clipped (answer ∙ sym goes_on ∙ turns)

  same_end : (s t : Span) → s.from ≡ t.from → s.clipped ≡ t.clipped → IsRun test end s → IsRun test end t → s.to ≡ t.to
  same_end s t begins answer one two =
      elim (cases_order s.to t.to) [
        | inl same ↦ same
        | inr (inl later) ↦ absurd (ends_later s t begins answer one two later)
        | inr (inr earlier) ↦ absurd (ends_later t s (sym begins) (sym answer) two one earlier)
      ]

  same_span : (s t : Span) → s.from ≡ t.from → s.to ≡ t.to → s.clipped ≡ t.clipped → s ≡ t
  same_span s t a b c =
      ap (λ n. span n s.to s.clipped) a ∙ ap (λ n. span t.from n s.clipped) b ∙ ap (λ n. span t.from t.to n) c

  pub only_runs : (x : ℕ) (spans others : List Span) → AreRunsFrom test end x spans → AreRunsFrom test end x others → spans ≡ others
  only_runs x [] [] one two = refl
  only_runs x [] (t ∷ others) one two =
      let some = two.1.some in let within = two.1.within in absurd (omega arith)
  only_runs x (s ∷ spans) [] one two =
      let some = one.1.some in let within = one.1.within in absurd (omega arith)
  only_runs x (s ∷ spans) (t ∷ others) one two =
      let begins : s.from ≡ t.from = one.0 ∙ sym two.0 in
      let answer : s.clipped ≡ t.clipped = sym (first_is s one.1) ∙ ap test begins ∙ first_is t two.1 in
      let ends : s.to ≡ t.to = same_end s t begins answer one.1 two.1 in
      let rest : spans ≡ others = only_runs s.to spans others one.2 (subst (λ n. AreRunsFrom test end n others) (sym ends) two.2) in
      ap (λ first. first ∷ spans) (same_span s t begins ends answer) ∙ ap (λ later. t ∷ later) rest

  pub runs-alternate : (x : ℕ) (spans : List Span) → AreRunsFrom test end x spans → Alternate spans
  runs-alternate x [] runs = tt
  runs-alternate x (s ∷ []) runs = (tt, tt)
  runs-alternate x (s ∷ (t ∷ rest)) runs =
      let some = runs.2.1.some in
      let within = runs.2.1.within in
      let turns : test s.to ≡ not s.clipped = runs.1.maximal (omega arith) in
      (sym (first_is t runs.2.1) ∙ ap test runs.2.0 ∙ turns, runs-alternate s.to (t ∷ rest) runs.2)

-- runs of a test are runs of each that gives the same answers below the end
pub runs_along : (test other : ℕ → Bool) (end x : ℕ) (spans : List Span) → ((y : ℕ) → y < end → test y ≡ other y) →
    AreRunsFrom test end x spans → AreRunsFrom other end x spans
runs_along test other end x [] agree runs = runs
runs_along test other end x (s ∷ rest) agree runs =
    let within = runs.1.within in (
      runs.0,
      record {
        some = runs.1.some;
        within = runs.1.within;
        same = λ y from to. sym (agree y (omega arith)) ∙ runs.1.same y from to;
        maximal = λ below. sym (agree s.to below) ∙ runs.1.maximal below;
      },
      runs_along test other end s.to rest agree runs.2,
    )

pub spans_of-spans : (rects : List Rect) (row width pixels : ℕ) → AreSpans rects row width pixels (spans_of rects row width pixels)
spans_of-spans rects row width pixels = runs_from-runs (clipped_at rects row pixels) width width 0 (omega arith)

pub only_spans : (rects : List Rect) (row width pixels : ℕ) (spans : List Span) → AreSpans rects row width pixels spans →
    spans ≡ spans_of rects row width pixels
only_spans rects row width pixels spans are =
    only_runs (clipped_at rects row pixels) width 0 spans (spans_of rects row width pixels) are (spans_of-spans rects row width pixels)
