-- What is kept of a machine's steps beside the machine.
use Rattle.std.specs.Prelude.{◌≡◌, ℕ, Bool, true, false, List, [], ◌∷◌, if◌then◌else◌}
use Rattle.irq_status.specs.declared.HostWrite.{HostWrite}
use Rattle.irq_status.specs.declared.HostWrite.TheVariants.{Enable}
use Rattle.fifo_model.specs.declared.Queue.{Queue}
use Rattle.fifo_model.specs.declared.Queue.TheVariants.{One, Two, Three}
use Rattle.machine_model.specs.declared.Seen.{Seen}
use Rattle.machine_model.specs.Paths.{RiscProgram}
use Rattle.machine_model.specs.Seen.{seen}
use Rattle.machine_model.specs.States.{State}
use Rattle.machine_model.specs.Steps.{Step, Turn, Host, run, step}
use Rattle.dma_machine.specs.FallThrough.{moved_whole}
use Rattle.dma_machine.specs.Looks.{holds}
use Rattle.dma_machine.specs.Plain.{plain_room}

-- how many plain entries may be pushed at once; none where `falls` is false
abbrev pub run_room : Bool → Queue → State → ℕ
run_room falls q m = if falls then plain_room q m else 0

-- What becomes of what is kept: `saw` is for a turn of a machine with this program, by what is seen of the turn, and
-- `emptied` for queues that are emptied, by which of them hold an entry.
pub record Notes (K : Type 0) : Type 0 where
  pub saw : RiscProgram → Seen → K → K
  pub emptied : Bool → Bool → Bool → K → K

-- a machine, and what is kept of its steps
pub record Watching (K : Type 0) : Type 0 where
  pub machine : State
  pub kept : K

module _ {K : Type 0} where
  abbrev pub watching : State → K → Watching K
  watching m k = record { machine = m; kept = k }

  -- what is kept stays as it is
  abbrev pub no_notes : Notes K
  no_notes = record { saw = λ program seen k. k; emptied = λ one two three k. k }

  -- of turns that take entries of a queue whole, one after the other, the first alone changes it, where this holds
  abbrev pub FirstTellsIf : Bool → Notes K → Type 0
  FirstTellsIf true notes =
      (first later : RiscProgram) (q : Queue) (at next : ℕ) (k : K) →
      notes.saw later (moved_whole q next) (notes.saw first (moved_whole q at) k) ≡ notes.saw first (moved_whole q at) k
  FirstTellsIf false notes = Unit {0}

  -- a host write that disables the FIFO empties the queues
  abbrev pub written : Notes K → HostWrite → State → K → K
  written notes (Enable false risc) m k = notes.emptied (holds One m) (holds Two m) (holds Three m) k
  written notes write m k = k

  -- what a step makes of it, from the state that the step meets: a push leaves it as it is
  abbrev pub next : Notes K → State → Step → K → K
  next notes m Turn k = notes.saw m.program (seen m) k
  next notes m (Host write) k = written notes write m k
  next notes m push k = k

  abbrev pub kept_after : Notes K → State → List Step → K → K
  kept_after notes m [] k = k
  kept_after notes m (s ∷ steps) k = kept_after notes (step s m) steps (next notes m s k)

  -- both after steps
  abbrev pub watched : Notes K → List Step → Watching K → Watching K
  watched notes steps w = record { machine = run w.machine steps; kept = kept_after notes w.machine steps w.kept }
