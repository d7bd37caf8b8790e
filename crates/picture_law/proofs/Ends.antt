-- The steps of a run of a program up to a field's end, each of which meets the program.
use Rattle.std.proofs.Common.{◌≡◌, ℕ, ◌+◌, ◌-◌, ◌≤◌, true, false, List, [], ◌∷◌, ◌++◌, take, sym, ap, ◌∙◌, arith}
use Rattle.machine_model.specs.Paths.{RiscProgram}
use Rattle.machine_model.specs.States.{State, first_state}
use Rattle.machine_model.specs.Steps.{Step, Turn, run, run_in, state_at}
use Rattle.machine_model.proofs.Runs.{program-run, run-run_in}
use Rattle.field_law.specs.Arrivals.{Met, meeting, has_end, is_end}
use Rattle.field_law.proofs.Meeting.{meeting-append}
use Rattle.picture_law.specs.Runs.{IsFirstEnd, between, step_at}
use Rattle.picture_law.proofs.Between.{between_at, between_last, end_turn, no_end, state_between}

module _ (program : RiscProgram) (fill : ℕ) (steps : List Step) where
  abbrev pub place : ℕ → State
  place i = state_at (first_state program fill) steps i

  -- a run of its steps is one in which each meets the program
  ran_in : (j : ℕ) (part : List Step) → run (place j) part ≡ run_in (place j) (meeting program part)
  ran_in j part =
      run-run_in (place j) part
      ∙ ap (λ (program : RiscProgram). run_in (place j) (meeting program part)) (program-run (first_state program fill) (take j steps))

  pub ran_to : (j i : ℕ) → j ≤ i → run_in (place j) (meeting program (between j i steps)) ≡ place i
  ran_to j i from = sym (ran_in j (between j i steps)) ∙ state_between (first_state program fill) steps j i from

  module _ (address j k : ℕ) (e : IsFirstEnd address (first_state program fill) steps j k) where
    abbrev pub before : ℕ → List Met
    before i = meeting program (between j i steps)

    abbrev pub turn_met : Met
    turn_met = (program, Turn)

    pub last_turn : step_at steps k ≡ Turn
    last_turn = end_turn address (place k) (step_at steps k) e.signal

    -- the steps up to k, cut at a turn
    pub split_at : (i : ℕ) → j ≤ i → i ≤ k → step_at steps i ≡ Turn →
        meeting program (between j (k + 1) steps) ≡ before i ++ turn_met ∷ meeting program (between (i + 1) (k + 1) steps)
    split_at i from to is_turn =
        let there = e.there in
        ap (meeting program) (between_at j i (k + 1) steps from (omega arith) (omega arith)
        ∙ ap (λ (st : Step). between j i steps ++ st ∷ between (i + 1) (k + 1) steps) is_turn)
        ∙ meeting-append program (between j i steps) (Turn ∷ between (i + 1) (k + 1) steps)

    pub unended_to : (i : ℕ) → j ≤ i → i ≤ k → has_end address (place j) (before i) ≡ false
    unended_to i from to =
        let there = e.there in
        no_end address (first_state program fill) steps (i - j) j i (omega arith) (omega arith) (λ n low high. e.first n low (omega arith))

    pub ends_last : is_end address (run_in (place j) (before k)) Turn ≡ true
    ends_last = ap (λ (m : State). is_end address m Turn) (ran_to j k e.later) ∙ ap (is_end address (place k)) (sym last_turn) ∙ e.signal

    pub ran_through : run_in (place j) (before k ++ turn_met ∷ []) ≡ place (k + 1)
    ran_through =
        let later = e.later in
        let last : meeting program (between j (k + 1) steps) ≡ before k ++ turn_met ∷ [] =
        ap (meeting program) (between_last j k steps later e.there ∙ ap (λ (st : Step). between j k steps ++ st ∷ []) last_turn)
        ∙ meeting-append program (between j k steps) (Turn ∷ []) in
        ap (run_in (place j)) (sym last) ∙ ran_to j (k + 1) (omega arith)
