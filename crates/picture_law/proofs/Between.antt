-- Parts of a run from one place to another.
use Rattle.std.proofs.Common.{◌≡◌, ℕ, zero, suc, ◌+◌, ◌-◌, ◌<◌, ◌≤◌, Bool, true, false, ◌||◌, List, [], ◌∷◌, ◌++◌, length, take, drop, refl}
use Rattle.std.proofs.Common.{sym, ap, ◌∙◌, subst, arith, ⊎_elim}
use Rattle.std.specs.Prelude.{slice_index_or}
use Rattle.std.proofs.Math.Seq.{take-add}
use Rattle.std.proofs.lemmas.Bool.{cases_Bool, cases_lt, or_cases, or_from, or_parts}
use Rattle.std.proofs.lemmas.List.{drop-drop, drop_more, take_more}
use Rattle.machine_model.specs.Paths.{RiscProgram}
use Rattle.machine_model.specs.States.{State}
use Rattle.machine_model.specs.Steps.{Step, Push, Control, Turn, Host, run, state_at, step, with_program}
use Rattle.machine_model.proofs.Runs.{program-run, run-append}
use Rattle.field_law.specs.Sections.{Section, closing_at}
use Rattle.field_law.specs.Arrivals.{meeting, has_end, has_signal, is_end, is_signal}
use Rattle.picture_law.specs.Runs.{IsFirstEnd, between, ends_at, signals_at, step_at}

-- ---- what is from a place up to another

pub range_split : {A : Type 0} (j i l : ℕ) (xs : List A) → j ≤ i → i ≤ l →
    take (l - j) (drop j xs) ≡ take (i - j) (drop j xs) ++ take (l - i) (drop i xs)
range_split {A} j i l xs first later =
    let all : l - j ≡ i - j + (l - i) = omega arith in
    let there : j + (i - j) ≡ i = omega arith in
    ap (λ (n : ℕ). take n (drop j xs)) all
    ∙ take-add (i - j) (l - i) (drop j xs)
    ∙ ap (λ (rest : List A). take (i - j) (drop j xs) ++ take (l - i) rest) (drop-drop (i - j) j xs ∙ ap (λ (n : ℕ). drop n xs) there)

pub range_first : {A : Type 0} (i l : ℕ) (xs : List A) (other : A) → i < l → i < length xs →
    take (l - i) (drop i xs) ≡ slice_index_or xs i other ∷ take (l - (i + 1)) (drop (i + 1) xs)
range_first {A} i l xs other before within =
    let more : l - i ≡ suc (l - (i + 1)) = omega arith in
    ap (λ (n : ℕ). take n (drop i xs)) more ∙ ap (λ (rest : List A). take (suc (l - (i + 1))) rest) (drop_more xs i other within)

-- ---- steps

pub between_both : (j i l : ℕ) (steps : List Step) → j ≤ i → i ≤ l → between j l steps ≡ between j i steps ++ between i l steps
between_both j i l steps first later = range_split j i l steps first later

pub between_first : (i l : ℕ) (steps : List Step) → i < l → i < length steps → between i l steps ≡ step_at steps i ∷ between (i + 1) l steps
between_first i l steps before within = range_first i l steps Turn before within

pub between_none : (i : ℕ) (steps : List Step) → between i i steps ≡ []
between_none i steps = let none : i - i ≡ 0 = omega arith in ap (λ (n : ℕ). take n (drop i steps)) none

-- the steps up to one at a place, that one, and those after it
pub between_at : (j i l : ℕ) (steps : List Step) → j ≤ i → i < l → i < length steps →
    between j l steps ≡ between j i steps ++ step_at steps i ∷ between (i + 1) l steps
between_at j i l steps first before within =
    between_both j i l steps first (omega arith)
    ∙ ap (λ (rest : List Step). between j i steps ++ rest) (between_first i l steps before within)

pub between_last : (j k : ℕ) (steps : List Step) → j ≤ k → k < length steps →
    between j (k + 1) steps ≡ between j k steps ++ step_at steps k ∷ []
between_last j k steps first within =
    between_at j k (k + 1) steps first (omega arith) within
    ∙ ap (λ (rest : List Step). between j k steps ++ step_at steps k ∷ rest) (between_none (k + 1) steps)

-- ---- states

pub state_next : (m : State) (steps : List Step) (k : ℕ) → k < length steps →
    state_at m steps (k + 1) ≡ step (step_at steps k) (state_at m steps k)
state_next m steps k within = ap (run m) (take_more steps k Turn within) ∙ run-append m (take k steps) (step_at steps k ∷ [])

pub state_between : (m : State) (steps : List Step) (j i : ℕ) → j ≤ i → run (state_at m steps j) (between j i steps) ≡ state_at m steps i
state_between m steps j i first =
    let there : j + (i - j) ≡ i = omega arith in
    sym (run-append m (take j steps) (between j i steps)) ∙ ap (run m) (sym (take-add j (i - j) steps))
    ∙ ap (λ (n : ℕ). run m (take n steps)) there

-- ---- ends

-- only a turn ends a field
pub end_turn : (address : ℕ) (m : State) (st : Step) → is_end address m st ≡ true → st ≡ Turn
end_turn address m Turn ends = refl
end_turn address m (Push q entry) ends = cc
end_turn address m (Control code) ends = cc
end_turn address m (Host write) ends = cc

-- a run keeps its program
pub own_program : (m : State) (steps : List Step) → run m steps ≡ with_program m.program (run m steps)
own_program m steps = ap (λ (program : RiscProgram). with_program program (run m steps)) (program-run m steps)

module _ (address : ℕ) (m : State) (steps : List Step) where
  abbrev ends_from : ℕ → ℕ → Bool
  ends_from j l = has_end address (state_at m steps j) (meeting m.program (between j l steps))

  none_from : (j : ℕ) → ends_from j j ≡ false
  none_from j = ap (λ (part : List Step). has_end address (state_at m steps j) (meeting m.program part)) (between_none j steps)

  ends_first : (j l : ℕ) → j < l → l ≤ length steps → ends_from j l ≡ (ends_at address m steps j || ends_from (j + 1) l)
  ends_first j l before within =
      let st = step_at steps j in
      let next : step st (with_program m.program (state_at m steps j)) ≡ state_at m steps (j + 1) =
      ap (step st) (sym (own_program m (take j steps))) ∙ sym (state_next m steps j (omega arith)) in
      ap (λ (part : List Step). has_end address (state_at m steps j) (meeting m.program part))
      (between_first j l steps before (omega arith))
      ∙ ap (λ (m' : State). ends_at address m steps j || has_end address m' (meeting m.program (between (j + 1) l steps))) next

  -- no step ends it
  pub no_end : (n j l : ℕ) → j + n ≡ l → l ≤ length steps → ((i : ℕ) → j ≤ i → i < l → ends_at address m steps i ≡ false) →
      ends_from j l ≡ false
  no_end zero j l end within none = let here : l ≡ j = omega arith in ap (ends_from j) here ∙ none_from j
  no_end (suc n) j l end within none =
      ends_first j l (omega arith) within
      ∙ or_from (ends_at address m steps j) (ends_from (j + 1) l) (none j (omega arith) (omega arith))
      (no_end n (j + 1) l (omega arith) within (λ i from to. none i (omega arith) to))

  -- some step does: the first
  pub some_end : (n j l : ℕ) → j + n ≡ l → l ≤ length steps → ends_from j l ≡ true → (k : ℕ) × IsFirstEnd address m steps j k × (k < l)
  some_end zero j l end within signal =
      let here : l ≡ j = omega arith in
      let none : ends_from j l ≡ false = ap (ends_from j) here ∙ none_from j in cc
  some_end (suc n) j l end within signal =
      ⊎_elim
      (λ now.
      (j, record { later = omega arith; there = omega arith; signal = now; first = λ i from to. absurd (omega arith) }, omega arith))
      (λ not_now.
      let both : (ends_at address m steps j || ends_from (j + 1) l) ≡ true = sym (ends_first j l (omega arith) within) ∙ signal in
      let rest : ends_from (j + 1) l ≡ true =
      ⊎_elim (λ now. cc) (λ more. more) (or_cases (ends_at address m steps j) (ends_from (j + 1) l) both) in
      let found = some_end n (j + 1) l (omega arith) within rest in
      let later = found.1.later in (
        found.0,
        record { later = omega arith; there = found.1.there; signal = found.1.signal; first = first_of found.0 not_now found.1 },
        found.2,
      ))
      (cases_Bool (ends_at address m steps j))
    where
      first_of : (k : ℕ) → ends_at address m steps j ≡ false → IsFirstEnd address m steps (j + 1) k → (i : ℕ) → j ≤ i → i < k →
          ends_at address m steps i ≡ false
      first_of k not_now first i from to =
          ⊎_elim
          (λ after. first.first i (omega arith) to)
          (λ here. let same : j ≡ i = omega arith in subst (λ (n : ℕ). ends_at address m steps n ≡ false) same not_now)
          (cases_lt j i)

  -- where none does, the step at each place doesn't
  pub unended_at : (n j l i : ℕ) → j + n ≡ l → l ≤ length steps → ends_from j l ≡ false → j ≤ i → i < l → ends_at address m steps i ≡ false
  unended_at zero j l i end within unended from to = absurd (omega arith)
  unended_at (suc n) j l i end within unended from to =
      let parts = or_parts (ends_at address m steps j) (ends_from (j + 1) l) (sym (ends_first j l (omega arith) within) ∙ unended) in
      ⊎_elim
      (λ after. unended_at n (j + 1) l i (omega arith) within parts.1 (omega arith) to)
      (λ here. let same : j ≡ i = omega arith in subst (λ (k : ℕ). ends_at address m steps k ≡ false) same parts.0)
      (cases_lt j i)

-- ---- signals

pub signal_turn : (s : Section) (m : State) (st : Step) → is_signal s m st ≡ true → st ≡ Turn
signal_turn s = end_turn (closing_at s)

module _ (s : Section) (m : State) (steps : List Step) where
  pub no_signal : (n j l : ℕ) → j + n ≡ l → l ≤ length steps → ((i : ℕ) → j ≤ i → i < l → signals_at s m steps i ≡ false) →
      has_signal s (state_at m steps j) (meeting m.program (between j l steps)) ≡ false
  no_signal = no_end (closing_at s) m steps

  pub silent_at : (n j l i : ℕ) → j + n ≡ l → l ≤ length steps →
      has_signal s (state_at m steps j) (meeting m.program (between j l steps)) ≡ false → j ≤ i → i < l →
      signals_at s m steps i ≡ false
  silent_at = unended_at (closing_at s) m steps
