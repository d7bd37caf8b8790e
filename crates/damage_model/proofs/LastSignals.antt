-- The answer for a field after all steps is the one right after its last signal.
use Rattle.std.proofs.Common.{◌≡◌, ℕ, zero, suc, ◌+◌, ◌-◌, ◌<◌, ◌≤◌, Bool, true, false, List, [], ◌∷◌, length, take, drop, Option, Some}
use Rattle.std.proofs.Common.{None, option_map, ◌⊎◌, inl, inr, refl, sym, ap, ◌∙◌, arith}
use Rattle.std.specs.Prelude.{option_and_then}
use Rattle.std.proofs.lemmas.List.{take-take}
use Rattle.pixel_layout.specs.declared.Parity.{Parity}
use Rattle.machine_model.specs.States.{State}
use Rattle.machine_model.specs.Steps.{Step, run, state_at, step}
use Rattle.capture_desc.specs.declared.desc.Desc.{Desc}
use Rattle.field_law.specs.Arrivals.{is_signal}
use Rattle.picture_law.specs.Runs.{between}
use Rattle.picture_law.specs.Sections.{section_of}
use Rattle.damage_model.specs.Marks.{answer, is_opening, last_step, later_or, marks, marks_to}
use Rattle.damage_model.specs.LastSignals.{AnswersStay}

-- ---- the last step of which a test holds

later_is : (here : Bool) (later : Option ℕ) (k : ℕ) → later_or here later ≡ Some k →
    (later ≡ None) × (k ≡ 0) ⊎ (n : ℕ) × (later ≡ Some n) × (k ≡ suc n)
later_is here (Some n) k e = let same : suc n ≡ k = cc in inr (n, refl, sym same)
later_is true None k e = let same : 0 ≡ k = cc in inl (refl, sym same)
later_is false None k e = absurd cc

-- of the steps after the first one, by cases
abbrev Later : Option ℕ → ℕ → Type 0
Later later k = (later ≡ None) × (k ≡ 0) ⊎ (n : ℕ) × (later ≡ Some n) × (k ≡ suc n)

below_later : (later : Option ℕ) (k count : ℕ) → ((n : ℕ) → later ≡ Some n → n < count) → Later later k → k < suc count
below_later later k count among (inl first) = let none = first.1 in omega (arith, none)
below_later later k count among (inr next) =
    let less = among next.0 next.1 in
    let same = next.2 in omega (arith, less, same)

first_stays : (here : Bool) (later : Option ℕ) → later_or here later ≡ Some 0 → Later later 0 → later_or here None ≡ Some 0
first_stays here later e (inl none) = ap (later_or here) (sym none.0) ∙ e
first_stays here later e (inr next) = let same = next.2 in absurd (omega (arith, same))

next_stays : (here : Bool) (later taken : Option ℕ) (k : ℕ) → (later ≡ Some k → taken ≡ Some k) → Later later (suc k) →
    later_or here taken ≡ Some (suc k)
next_stays here later taken k stays (inl none) = let same = none.1 in absurd (omega (arith, same))
next_stays here later taken k stays (inr next) =
    let eq = next.2 in
    let same : next.0 ≡ k = omega (arith, eq) in
    ap (later_or here) (stays (next.1 ∙ ap (λ (n : ℕ). Some n) same))

module _ (test : State → Step → Bool) where
  -- it is among the steps
  last_below : (m : State) (steps : List Step) (k : ℕ) → last_step test m steps ≡ Some k → k < length steps
  last_below m [] k e = absurd cc
  last_below m (s ∷ steps) k e =
      below_later (last_step test (step s m) steps) k (length steps) (last_below (step s m) steps)
      (later_is (test m s) (last_step test (step s m) steps) k e)

  -- and is the last of the steps up to it
  last_stays : (m : State) (steps : List Step) (k : ℕ) → last_step test m steps ≡ Some k → last_step test m (take (suc k) steps) ≡ Some k
  last_stays m [] k e = absurd cc
  last_stays m (s ∷ steps) zero e =
      let later : Option ℕ = last_step test (step s m) steps in first_stays (test m s) later e (later_is (test m s) later 0 e)
  last_stays m (s ∷ steps) (suc k) e =
      let later : Option ℕ = last_step test (step s m) steps in
      next_stays (test m s) later (last_step test (step s m) (take (suc k) steps)) k (last_stays (step s m) steps k)
      (later_is (test m s) later (suc k) e)

-- ---- the marks at a signal depend on the steps up to it

take_none : (none : List Step) (n : ℕ) → none ≡ [] → take n none ≡ []
take_none [] zero e = refl
take_none [] (suc n) e = refl
take_none (s ∷ none) n e = absurd cc

between_front : (j k l : ℕ) (steps : List Step) → j ≤ k → k ≤ l → between j k (take l steps) ≡ between j k steps
between_front zero k l steps first within =
    let all : k - 0 ≡ k = omega arith in
    ap (λ (n : ℕ). take n (take l steps)) all ∙ take-take k l steps within ∙ ap (λ (n : ℕ). take n steps) (sym all)
between_front (suc j) k l [] first within = ap (λ (none : List Step). between (suc j) k none) (take_none [] l refl)
between_front (suc j) zero l (s ∷ steps) first within = absurd (omega (arith, first))
between_front (suc j) (suc k) zero (s ∷ steps) first within = absurd (omega (arith, within))
between_front (suc j) (suc k) (suc l) (s ∷ steps) first within =
    let less : suc k - suc j ≡ k - j = omega arith in
    ap (λ (n : ℕ). take n (drop j (take l steps))) less ∙ between_front j k l steps (omega (arith, first)) (omega (arith, within))
    ∙ ap (λ (n : ℕ). take n (drop j steps)) (sym less)

module _ (d : Desc) (field : Parity) (m : State) (steps : List Step) (k : ℕ) where
  abbrev marked : List Step → ℕ → List Bool
  marked some j = marks d field (state_at m some j) (between j k some)

  marked_stays : (j : ℕ) → j < k → marked (take (suc k) steps) j ≡ marked steps j
  marked_stays j below =
      ap (λ (some : List Step). marks d field (run m some) (between j k (take (suc k) steps)))
      (take-take j (suc k) steps (omega (arith, below)))
      ∙ ap (marks d field (state_at m steps j)) (between_front j k (suc k) steps (omega (arith, below)) (omega arith))

  length_take : (n : ℕ) (some : List Step) → length (take n some) ≤ n
  length_take zero some = omega arith
  length_take (suc n) [] = omega arith
  length_take (suc n) (s ∷ some) = let less = length_take n some in omega (arith, less)

  marked_alike : (opened : Option ℕ) → last_step (is_opening d field) m (take k steps) ≡ opened →
      option_map (marked (take (suc k) steps)) opened ≡ option_map (marked steps) opened
  marked_alike None e = refl
  marked_alike (Some j) e =
      let among = last_below (is_opening d field) m (take k steps) j e in
      let few = length_take k steps in
      ap (λ (rows : List Bool). Some rows) (marked_stays j (omega (arith, among, few)))

  marks_stay : marks_to d field m (take (suc k) steps) k ≡ marks_to d field m steps k
  marks_stay =
      ap (λ (some : List Step). option_map (marked (take (suc k) steps)) (last_step (is_opening d field) m some))
      (take-take k (suc k) steps (omega arith))
      ∙ marked_alike (last_step (is_opening d field) m (take k steps)) refl

pub answers_stay : AnswersStay
answers_stay d field m steps k last =
    let up_to : last_step (is_signal (section_of d field)) m (take (suc k) steps) ≡ Some k =
    last_stays (is_signal (section_of d field)) m steps k last in
    let more : suc k ≡ k + 1 = omega arith in
    ap (option_and_then (marks_to d field m steps)) last
    ∙ sym (marks_stay d field m steps k)
    ∙ ap (option_and_then (marks_to d field m (take (suc k) steps))) (sym up_to)
    ∙ ap (λ (n : ℕ). answer d field m (take n steps)) more
