-- Runs from the opening of a section on, up to the signal: those along its trail.
use Rattle.std.proofs.Common.{◌≡◌, ℕ, false, All, List, ◌++◌}
use Rattle.fifo_model.specs.declared.Entry.{Entry}
use Rattle.fifo_model.specs.declared.Queue.{Queue}
use Rattle.page_table.specs.Grants.{Chunk}
use Rattle.machine_model.specs.States.{State}
use Rattle.machine_model.specs.Steps.{run_in}
use Rattle.machine_model.specs.Safety.{IsStep, IsOrderly}
use Rattle.field_law.specs.Fields.{Token}
use Rattle.field_law.specs.Sections.{Section, Uses, Holds}
use Rattle.field_law.specs.Trails.{trail_of}
use Rattle.field_law.specs.Arrivals.{Met, coming, AreKept, has_signal}
use Rattle.field_law.proofs.InSection.{StandsIn, along_in}
use Rattle.field_law.proofs.TrailRuns as trail

module _ (s : Section) (field : Queue → List Token) (uses : Uses s field) (given : Type 0) (chunks : List Chunk) (final : ℕ → ℕ) where
  abbrev pub ReachedWith : (Queue → List Entry) → ℕ → State → Type 0
  ReachedWith later bound m = trail.ReachedWith (trail_of s) (Holds s) (StandsIn s) (along_in s) field uses given chunks final later bound m

  abbrev pub Ran : List Met → List Met → ℕ → State → Type 0
  Ran later late bound m = trail.Ran (trail_of s) (Holds s) (StandsIn s) (along_in s) field uses given chunks final later late bound m

  -- `later` are steps to come, as many as are seen ahead
  pub runs : (early late later : List Met) (bound : ℕ) (m : State) → IsOrderly m → All (λ met. IsStep met.1) (early ++ late) →
      All (λ met. Holds s met.0) (early ++ late) → AreKept m (early ++ late) →
      has_signal s m early ≡ false → ReachedWith (coming (early ++ later)) bound m → Ran later late bound (run_in m early)
  runs = trail.runs (trail_of s) (Holds s) (StandsIn s) (along_in s) field uses given chunks final
