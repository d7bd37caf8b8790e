-- The law of the picture for trails: what holds of a field that arrives, whatever the schedule and the history.
use Rattle.std.specs.Prelude.{◌≡◌, ℕ, ◌+◌, ◌*◌, ◌≤◌, true, false, All, List, [], ◌∷◌, ◌++◌, length}
use Rattle.fifo_model.specs.declared.Queue.{Queue}
use Rattle.fifo_model.specs.Queues.{queue_state}
use Rattle.page_table.specs.Blocks.{byte_at}
use Rattle.machine_model.specs.Paths.{RiscProgram}
use Rattle.machine_model.specs.States.{State}
use Rattle.machine_model.specs.Turns.{sets_fdsr}
use Rattle.machine_model.specs.Steps.{Turn, with_program, run_in}
use Rattle.machine_model.specs.Safety.{IsStep, IsOrderly}
use Rattle.field_law.specs.Fields.{Token}
use Rattle.field_law.specs.Sections.{UsesField, PaintsField}
use Rattle.field_law.specs.Trails.{Trail, Leads, after_closing}
use Rattle.field_law.specs.Arrivals.{Met, ArrivesAtOpening, BringsAfter, coming, entries_of, over_queues, is_end, has_end, turns_in}

-- every program that the steps meet leads along the trail, no data push has a control code, and the field arrives over
-- these steps and is used up
pub record TrailReceives (t : Trail) (field : Queue → List Token) (m : State) (steps : List Met) : Type 0 where
  pub orderly : IsOrderly m
  pub made : All (λ met. IsStep met.1) steps
  pub held : All (λ met. Leads t met.0) steps
  pub uses : UsesField t.body field
  pub arrives : ArrivesAtOpening t.opening t.code t.at (BringsAfter t.code field) m steps

-- after the first end memory is as it is to be in the end
abbrev pub TrailShowsPicture : Type 0
TrailShowsPicture = (t : Trail) (field : Queue → List Token) (final : ℕ → ℕ) (m : State) (early late : List Met) (program : RiscProgram) →
    TrailReceives t field m (early ++ (program, Turn) ∷ late) → PaintsField t.body field m.memory final → has_end t.end m early ≡ false →
    is_end t.end (run_in m early) Turn ≡ true → (address : ℕ) →
    byte_at (run_in m (early ++ (program, Turn) ∷ [])).memory address ≡ final address

-- no turn up to it sets FDSR, whether or not the bit is set already
abbrev pub TrailShowsNoFault : Type 0
TrailShowsNoFault = (t : Trail) (field : Queue → List Token) (m : State) (early late : List Met) (program : RiscProgram) →
    TrailReceives t field m (early ++ (program, Turn) ∷ late) → has_end t.end m early ≡ false →
    sets_fdsr (with_program program (run_in m early)) ≡ false

-- the end applies the control bits of the closing
abbrev pub TrailEndsWithClosing : Type 0
TrailEndsWithClosing = (t : Trail) (field : Queue → List Token) (m : State) (early late : List Met) (program : RiscProgram) →
    TrailReceives t field m (early ++ (program, Turn) ∷ late) → has_end t.end m early ≡ false → is_end t.end (run_in m early) Turn ≡ true →
    (run_in m (early ++ (program, Turn) ∷ [])).interrupts ≡ after_closing t.closing (run_in m early).interrupts

-- once all entries were pushed, an end comes within so many turns
abbrev pub TrailIsBounded : Type 0
TrailIsBounded =
    (t : Trail) (field : Queue → List Token) (m : State) (early late : List Met) (receives : TrailReceives t field m (early ++ late)) →
    ((q : Queue) →
    entries_of receives.arrives.before receives.arrives.entries q ≤ length (queue_state q m.queues).entries + length (coming early q)) →
    5 * (length t.body + 2) + over_queues (entries_of receives.arrives.before receives.arrives.entries) ≤ turns_in late →
    has_end t.end m (early ++ late) ≡ true
