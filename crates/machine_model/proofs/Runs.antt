-- What steps keep, runs keep.
use Rattle.std.proofs.Common.{◌≡◌, ℕ, List, [], ◌∷◌, ◌++◌, take, map, All, refl, sym, ap, subst, ◌∙◌}
use Rattle.std.proofs.lemmas.List.Elements.{All-head, All-tail, All-take}
use Rattle.page_table.specs.Blocks.{chunks_of}
use Rattle.machine_model.specs.Paths.{RiscProgram, IsSound}
use Rattle.machine_model.specs.States.{State, first_state}
use Rattle.machine_model.specs.Steps.{Step, step, run, with_program, run_in, state_at}
use Rattle.machine_model.specs.Safety.{IsOrderly, IsSafe, IsInside, IsStep}
use Rattle.machine_model.proofs.Orderly.{IsOrderly-step, IsOrderly-with_program}
use Rattle.machine_model.proofs.ProgramStays.{program-step, chunks-step}
use Rattle.machine_model.proofs.Safe.{IsSafe-step, IsSafe-first_state}
use Rattle.machine_model.proofs.WritesAndFetches.{StaysInside-safe}

pub program-run : (m : State) (steps : List Step) → (run m steps).program ≡ m.program
program-run m [] = refl
program-run m (s ∷ steps) = program-run (step s m) steps ∙ program-step s m

pub chunks-run : (m : State) (steps : List Step) → chunks_of (run m steps).memory ≡ chunks_of m.memory
chunks-run m [] = refl
chunks-run m (s ∷ steps) = chunks-run (step s m) steps ∙ chunks-step s m

pub IsOrderly-run : (m : State) (steps : List Step) → All IsStep steps → IsOrderly m → IsOrderly (run m steps)
IsOrderly-run m [] are h = h
IsOrderly-run m (s ∷ steps) are h =
    IsOrderly-run (step s m) steps (All-tail IsStep s steps are) (IsOrderly-step s m (All-head IsStep s steps are) h)

pub IsSafe-run : (m : State) (steps : List Step) → All IsStep steps → IsSound m.program → IsSafe m → IsSafe (run m steps)
IsSafe-run m [] are sound h = h
IsSafe-run m (s ∷ steps) are sound h =
    IsSafe-run (step s m) steps (All-tail IsStep s steps are) (subst IsSound (sym (program-step s m)) sound)
    (IsSafe-step s m (All-head IsStep s steps are) sound h)

pub run-append : (m : State) (first second : List Step) → run m (first ++ second) ≡ run (run m first) second
run-append m [] second = refl
run-append m (s ∷ first) second = run-append (step s m) first second

-- at every place of a run from a safe state, and from the first
pub IsInside-run : (m : State) (steps : List Step) (number : ℕ) → IsSound m.program → IsSafe m → All IsStep steps →
    IsInside m.program (state_at m steps number)
IsInside-run m steps number sound h are =
    let same = program-run m (take number steps) in
    let safe = IsSafe-run m (take number steps) (All-take IsStep number steps are) sound h in
    record {
      same = same;
      safe = safe;
      inside = StaysInside-safe (state_at m steps number) (subst IsSound (sym same) sound) safe;
      no_error = safe.no_error;
    }

pub IsInside-first_state : (program : RiscProgram) (fill : ℕ) (steps : List Step) (number : ℕ) → IsSound program → All IsStep steps →
    IsInside program (state_at (first_state program fill) steps number)
IsInside-first_state program fill steps number sound are =
    IsInside-run (first_state program fill) steps number sound (IsSafe-first_state program fill) are

-- each step meets a program of its own
pub IsOrderly-run_in : (m : State) (steps : List (RiscProgram × Step)) → All (λ met. IsStep met.1) steps → IsOrderly m →
    IsOrderly (run_in m steps)
IsOrderly-run_in m [] are h = h
IsOrderly-run_in m (s ∷ steps) are h =
    IsOrderly-run_in (step s.1 (with_program s.0 m)) steps (All-tail (λ met. IsStep met.1) s steps are)
    (IsOrderly-step s.1 (with_program s.0 m) (All-head (λ met. IsStep met.1) s steps are) (IsOrderly-with_program s.0 m h))

pub chunks-run_in : (m : State) (steps : List (RiscProgram × Step)) → chunks_of (run_in m steps).memory ≡ chunks_of m.memory
chunks-run_in m [] = refl
chunks-run_in m (s ∷ steps) =
    chunks-run_in (step s.1 (with_program s.0 m)) steps ∙ chunks-step s.1 (with_program s.0 m)

pub run_in-append : (m : State) (first second : List (RiscProgram × Step)) → run_in m (first ++ second) ≡ run_in (run_in m first) second
run_in-append m [] second = refl
run_in-append m (s ∷ first) second = run_in-append (step s.1 (with_program s.0 m)) first second

-- a run is one in which each step meets the machine's own program
pub run-run_in : (m : State) (steps : List Step) → run m steps ≡ run_in m (map (λ s. (m.program, s)) steps)
run-run_in m [] = refl
run-run_in m (s ∷ steps) =
    run-run_in (step s m) steps ∙ ap (λ (program : RiscProgram). run_in (step s m) (map (λ s. (program, s)) steps)) (program-step s m)
