-- The law of the picture: what holds of a field that arrives at a section, whatever the schedule and the history.
use Rattle.std.specs.Prelude.{◌≡◌, ℕ, ◌+◌, ◌*◌, ◌≤◌, true, false, All, List, [], ◌∷◌, ◌++◌, length}
use Rattle.risc_word.specs.declared.Ctl.{Ctl}
use Rattle.fifo_model.specs.declared.Queue.{Queue}
use Rattle.fifo_model.specs.Queues.{queue_state}
use Rattle.irq_status.specs.Register.{risci, has, risc_status, applied}
use Rattle.page_table.specs.Blocks.{byte_at}
use Rattle.machine_model.specs.Paths.{RiscProgram}
use Rattle.machine_model.specs.States.{State}
use Rattle.machine_model.specs.Turns.{sets_fdsr}
use Rattle.machine_model.specs.Steps.{Turn, with_program, run_in}
use Rattle.machine_model.specs.Safety.{IsStep, IsOrderly}
use Rattle.field_law.specs.Fields.{Token}
use Rattle.field_law.specs.Sections.{Section, Holds, Uses, Paints}
use Rattle.field_law.specs.Arrivals.{Met, Arrives, BringsField, coming, entries_of, over_queues, is_signal, has_signal, turns_in}

-- every program that the steps meet holds the section, no data push has a control code, and the field arrives over these
-- steps and is used up
pub record Receives (s : Section) (field : Queue → List Token) (m : State) (steps : List Met) : Type 0 where
  pub orderly : IsOrderly m
  pub made : All (λ met. IsStep met.1) steps
  pub held : All (λ met. Holds s met.0) steps
  pub uses : Uses s field
  pub arrives : Arrives s (BringsField s field) m steps

-- after the first signal memory is as it is to be in the end
abbrev pub ShowsPicture : Type 0
ShowsPicture = (s : Section) (field : Queue → List Token) (final : ℕ → ℕ) (m : State) (early late : List Met) (program : RiscProgram) →
    Receives s field m (early ++ (program, Turn) ∷ late) → Paints s field m.memory final → has_signal s m early ≡ false →
    is_signal s (run_in m early) Turn ≡ true → (address : ℕ) →
    byte_at (run_in m (early ++ (program, Turn) ∷ [])).memory address ≡ final address

-- no turn up to it sets FDSR, whether or not the bit is set already
abbrev pub ShowsNoFault : Type 0
ShowsNoFault = (s : Section) (field : Queue → List Token) (m : State) (early late : List Met) (program : RiscProgram) →
    Receives s field m (early ++ (program, Turn) ∷ late) → has_signal s m early ≡ false →
    sets_fdsr (with_program program (run_in m early)) ≡ false

-- the register after control bits were applied: RISCI, and the RISC status where each of its bits is set or cleared
pub record ShowsBits (ctl : Ctl) (before now : ℕ) : Type 0 where
  pub register : now ≡ applied ctl before
  pub raised : ctl.irq ≡ true → has risci now ≡ true
  pub status : ctl.set + ctl.reset ≡ 15 → risc_status now ≡ ctl.set

-- the signal applies those of the closing
abbrev pub SignalsClosing : Type 0
SignalsClosing = (s : Section) (field : Queue → List Token) (m : State) (early late : List Met) (program : RiscProgram) →
    Receives s field m (early ++ (program, Turn) ∷ late) → has_signal s m early ≡ false →
    is_signal s (run_in m early) Turn ≡ true →
    ShowsBits s.closing (run_in m early).interrupts (run_in m (early ++ (program, Turn) ∷ [])).interrupts

-- once all entries were pushed, a signal comes within so many turns
abbrev pub IsBounded : Type 0
IsBounded = (s : Section) (field : Queue → List Token) (m : State) (early late : List Met) (receives : Receives s field m (early ++ late)) →
    ((q : Queue) →
    entries_of receives.arrives.before receives.arrives.entries q ≤ length (queue_state q m.queues).entries + length (coming early q)) →
    5 * (length s.body + 2) + over_queues (entries_of receives.arrives.before receives.arrives.entries) ≤ turns_in late →
    has_signal s m (early ++ late) ≡ true
