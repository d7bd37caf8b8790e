-- Plain entries that are pushed to an empty queue, with turns behind each: how many may be, and how they are taken.
use Rattle.std.specs.Prelude.{◌≡◌, ◌⊎◌, ℕ, ◌+◌, ◌-◌, ◌/◌, ◌^◌, ◌<◌, min, Bool, not, ◌&&◌, ◌==◌, true, false, is_none, List, [], ◌∷◌}
use Rattle.std.specs.Prelude.{if◌then◌else◌, replicate}
use Rattle.risc_word.specs.declared.Instr.{Instr}
use Rattle.risc_word.specs.Parts.{instr_off}
use Rattle.fifo_model.specs.declared.Queue.{Queue}
use Rattle.fifo_model.specs.Queues.{front, queue_state}
use Rattle.machine_model.specs.declared.Demands.{Demands}
use Rattle.machine_model.specs.declared.Job.{Job}
use Rattle.machine_model.specs.declared.Job.TheVariants.{Running}
use Rattle.machine_model.specs.States.{State}
use Rattle.machine_model.specs.Seen.{seen}
use Rattle.machine_model.specs.PlainEntries.{ArePlain, plain_entry}
use Rattle.machine_model.specs.Steps.{Turn, push, run}
use Rattle.machine_model.specs.Turns.{demand_on, turn}
use Rattle.dma_machine.specs.FallThrough.{MovesWhole}
use Rattle.dma_machine.specs.Stills.{is_still, none_served}

-- each is a DWORD
abbrev pub AreDwords : List (ℕ × ℕ) → Type 0
AreDwords [] = Unit {0}
AreDwords (entry ∷ entries) = (entry.0 < 2 ^ 32) × AreDwords entries

-- entries of these DWORDs, one behind the other, with so many turns in all, and at least one behind each
pub record AreRun (bytes : List ℕ) (sum : ℕ) (entries : List (ℕ × ℕ)) : Type 0 where
  pub plain : ArePlain bytes sum entries
  pub dwords : AreDwords entries

-- behind a push: the next turn takes all that the queue holds whole, and leaves the machine standing still
pub record CompletesBurst (q : Queue) (pushed : State) : Type 0 where
  pub moves : MovesWhole q (seen pushed)
  pub still : is_still (turn pushed) ≡ true

-- each entry leaves the machine standing still, or completes a burst; `some` says whether one of them completes one
abbrev pub AreTaken : Bool → Queue → List (ℕ × ℕ) → State → Type 0
AreTaken some q [] m = some ≡ false
AreTaken some q (entry ∷ entries) m =
    let pushed : State = push q (plain_entry entry.0) m in
    let after : State = run pushed (replicate entry.1 Turn) in
    ((is_still pushed ≡ true) × AreTaken some q entries after)
    ⊎ ((some ≡ true) × CompletesBurst q pushed × (more : Bool) × AreTaken more q entries after)

-- entries that are pushed with no turn between them
abbrev pub all_pushed : Queue → List (ℕ × ℕ) → State → State
all_pushed q [] m = m
all_pushed q (entry ∷ entries) m = all_pushed q entries (push q (plain_entry entry.0) m)

-- ---- how many may be pushed

-- the line is under way, no lane is off, and nothing waits in the queue, nor in another one that is served
abbrev pub lets_plain : Queue → Instr → Demands → State → Bool
lets_plain q instr ds m =
    is_none (front (queue_state q m.queues)) && (not (demand_on q ds).needs_sol && ((instr_off instr == 0) && none_served ds m))

-- what is asked of all queues
abbrev pub asked_of_all : Demands → ℕ
asked_of_all ds = ds.one.rest + ds.two.rest + ds.three.rest

-- entries that are taken whole before nothing more is asked
abbrev pub whole_entries : Queue → Demands → ℕ
whole_entries q ds = min ((demand_on q ds).rest / 4) ((asked_of_all ds - 1) / 4)

abbrev pub room_in : Job → Queue → State → ℕ
room_in (Running instr ds) q m = if lets_plain q instr ds m then whole_entries q ds else 0
room_in _ q m = 0

abbrev pub plain_room : Queue → State → ℕ
plain_room q m = if m.fifo_on && m.risc_on then room_in m.job q m else 0
