-- The marks of a field after a run, kept step by step: the steps since its opening, and the answer at its last signal.
use Rattle.std.proofs.Common.{◌≡◌, ℕ, suc, ◌-◌, Bool, true, false, List, [], ◌∷◌, ◌++◌, append_assoc, take, drop, Option, Some, None, refl}
use Rattle.std.proofs.Common.{sym, ap, ◌∙◌, arith, option_map}
use Rattle.std.specs.Prelude.{option_and_then}
use Rattle.std.proofs.lemmas.List.{append-nil}
use Rattle.pixel_layout.specs.declared.Parity.{Parity}
use Rattle.machine_model.specs.States.{State}
use Rattle.machine_model.specs.Steps.{Step, state_at, step}
use Rattle.capture_desc.specs.declared.desc.Desc.{Desc}
use Rattle.field_law.specs.Arrivals.{is_signal}
use Rattle.picture_law.specs.Runs.{between}
use Rattle.picture_law.specs.Sections.{section_of}
use Rattle.damage_model.specs.Marks.{answer, is_opening, last_step, later_or, marks, marks_to}

-- the state at a field's last opening, and the steps since
abbrev pub Opened : Type 0
Opened = Option (State × List Step)

abbrev pub more_steps : Step → State × List Step → State × List Step
more_steps s opened = (opened.0, opened.1 ++ s ∷ [])

abbrev pub opened_if : Bool → State → Step → Opened → Opened
opened_if true m s open_since = Some (m, s ∷ [])
opened_if false m s open_since = option_map (more_steps s) open_since

module _ (d : Desc) (field : Parity) where
  abbrev pub marks_over : State × List Step → List Bool
  marks_over opened = marks d field opened.0 opened.1

  abbrev pub told_if : Bool → Opened → Option (List Bool) → Option (List Bool)
  told_if true open_since told = option_map marks_over open_since
  told_if false open_since told = told

  abbrev pub next_opened : State → Step → Opened → Opened
  next_opened m s open_since = opened_if (is_opening d field m s) m s open_since

  abbrev pub next_told : State → Step → Opened → Option (List Bool) → Option (List Bool)
  next_told m s open_since told = told_if (is_signal (section_of d field) m s) open_since told

  abbrev pub told_after : Opened → Option (List Bool) → State → List Step → Option (List Bool)
  told_after open_since told m [] = told
  told_after open_since told m (s ∷ steps) = told_after (next_opened m s open_since) (next_told m s open_since told) (step s m) steps

  -- the same from the last signal, and the last opening before it
  abbrev by_opening : Option ℕ → ℕ → Opened → State → List Step → Option (List Bool)
  by_opening (Some j) k open_since m steps = Some (marks d field (state_at m steps j) (between j k steps))
  by_opening None k open_since m steps = option_map (λ o. marks d field o.0 (o.1 ++ take k steps)) open_since

  abbrev last_opening : State → List Step → ℕ → Option ℕ
  last_opening m steps k = last_step (is_opening d field) m (take k steps)

  abbrev by_signal : Option ℕ → Opened → Option (List Bool) → State → List Step → Option (List Bool)
  by_signal None open_since told m steps = told
  by_signal (Some k) open_since told m steps = by_opening (last_opening m steps k) k open_since m steps

  longer : (s : Step) (k : ℕ) (steps : List Step) (open_since : Opened) →
      option_map (λ o. marks d field o.0 (o.1 ++ take k steps)) (option_map (more_steps s) open_since)
      ≡ option_map (λ o. marks d field o.0 (o.1 ++ s ∷ take k steps)) open_since
  longer s k steps None = refl
  longer s k steps (Some o) = ap (λ (all : List Step). Some (marks d field o.0 all)) (append_assoc o.1 (s ∷ []) (take k steps))

  opening_behind : (inner : Option ℕ) (here : Bool) (k : ℕ) (m : State) (s : Step) (steps : List Step) (open_since : Opened) →
      by_opening inner k (opened_if here m s open_since) (step s m) steps
      ≡ by_opening (later_or here inner) (suc k) open_since m (s ∷ steps)
  opening_behind (Some j) here k m s steps open_since =
      let fewer : suc k - suc j ≡ k - j = omega arith in
      ap (λ (n : ℕ). Some (marks d field (state_at (step s m) steps j) (take n (drop j steps)))) (sym fewer)
  opening_behind None true k m s steps open_since =
      let all : suc k - 0 ≡ suc k = omega arith in
      ap (λ (n : ℕ). Some (marks d field m (take n (s ∷ steps)))) (sym all)
  opening_behind None false k m s steps open_since = longer s k steps open_since

  nothing_more : (open_since : Opened) → option_map marks_over open_since ≡ option_map (λ o. marks d field o.0 (o.1 ++ [])) open_since
  nothing_more None = refl
  nothing_more (Some o) = ap (λ (all : List Step). Some (marks d field o.0 all)) (sym (append-nil o.1))

  behind : (later : Option ℕ) (here : Bool) (m : State) (s : Step) (steps : List Step) (open_since : Opened) (told : Option (List Bool)) →
      by_signal later (next_opened m s open_since) (told_if here open_since told) (step s m) steps
      ≡ by_signal (later_or here later) open_since told m (s ∷ steps)
  behind (Some k) here m s steps open_since told =
      opening_behind (last_opening (step s m) steps k) (is_opening d field m s) k m s steps open_since
  behind None true m s steps open_since told = nothing_more open_since
  behind None false m s steps open_since told = refl

  told_after-by_signal : (steps : List Step) (m : State) (open_since : Opened) (told : Option (List Bool)) →
      told_after open_since told m steps ≡ by_signal (last_step (is_signal (section_of d field)) m steps) open_since told m steps
  told_after-by_signal [] m open_since told = refl
  told_after-by_signal (s ∷ steps) m open_since told =
      told_after-by_signal steps (step s m) (next_opened m s open_since) (next_told m s open_since told)
      ∙ behind (last_step (is_signal (section_of d field)) (step s m) steps) (is_signal (section_of d field) m s) m s steps open_since told

  opening_or_none : (inner : Option ℕ) (k : ℕ) (m : State) (steps : List Step) →
      by_opening inner k None m steps ≡ option_map (λ j. marks d field (state_at m steps j) (between j k steps)) inner
  opening_or_none None k m steps = refl
  opening_or_none (Some j) k m steps = refl

  signal_or_none : (last : Option ℕ) (m : State) (steps : List Step) →
      by_signal last None None m steps ≡ option_and_then (marks_to d field m steps) last
  signal_or_none None m steps = refl
  signal_or_none (Some k) m steps = opening_or_none (last_opening m steps k) k m steps

  pub told_after-answer : (m : State) (steps : List Step) → told_after None None m steps ≡ answer d field m steps
  told_after-answer m steps =
      told_after-by_signal steps m None None ∙ signal_or_none (last_step (is_signal (section_of d field)) m steps) m steps
