-- The entries that enter a queue, and that what is taken of them is taken in their order.
use Rattle.std.specs.Prelude.{◌≡◌, ◌↔◌, ℕ, true, All, List, [], ◌∷◌, ◌++◌, slice_index_or}
use Rattle.fifo_model.specs.declared.Entry.{Entry}
use Rattle.fifo_model.specs.declared.Pushed.{Pushed}
use Rattle.fifo_model.specs.declared.Pushed.TheVariants.{Held}
use Rattle.fifo_model.specs.declared.Queue.{Queue}
use Rattle.fifo_model.specs.Queues.{queue_state}
use Rattle.machine_model.specs.Safety.{IsOrderly, IsStep}
use Rattle.machine_model.specs.States.{State}
use Rattle.machine_model.specs.Steps.{Step, Push, Control, control_pushed_as, pushed_as, step}
use Rattle.field_law.specs.Arrivals.{pushed_by}
use Rattle.damage_model.specs.Takings.{takings}
use Rattle.damage_model.specs.Lines.{AreInOrder, IsWholeLine, are_line}
use Rattle.damage_model.specs.Marks.{takings_at}

-- what a push brings where it is held
abbrev pub held_as : Pushed → List Entry → List Entry
held_as Held entries = entries
held_as _ entries = []

-- the entries by which a step makes a queue longer
abbrev pub entering : Queue → State → Step → List Entry
entering q m (Push to entry) = held_as (pushed_as to m) (pushed_by (Push to entry) q)
entering q m (Control code) = held_as (control_pushed_as m) (pushed_by (Control code) q)
entering q m _ = []

abbrev pub entering_over : Queue → State → List Step → List Entry
entering_over q m [] = []
entering_over q m (s ∷ steps) = entering q m s ++ entering_over q (step s m) steps

-- those that a queue holds, and then those that enter it: each by how many leave the queue before it
abbrev pub stream : Queue → State → List Step → List Entry
stream q m steps = (queue_state q m.queues).entries ++ entering_over q m steps

-- behind the last of them is one of a reserved status, of which nothing is taken and which no line has
abbrev pub no_entry : Entry
no_entry = record { status = 3; dword = 0 }

abbrev pub entry_at : List Entry → ℕ → Entry
entry_at entries place = slice_index_or entries place no_entry

-- what is taken of a queue over steps is taken of these entries, in their order
abbrev pub TakesInOrder : Type 0
TakesInOrder =
    (q : Queue) (m : State) (steps : List Step) → IsOrderly m → All IsStep steps →
    AreInOrder (entry_at (stream q m steps)) 0 0 (takings q 0 m steps)

-- so what instructions at some addresses take of a queue is a line exactly where the entries of which a byte is taken follow
-- one another among these, each is taken whole, and they are a line
abbrev pub LinesAreWhole : Type 0
LinesAreWhole = (q : Queue) (m : State) (steps : List Step) (addresses : List ℕ) → IsOrderly m → All IsStep steps →
    (are_line (takings_at addresses q m steps) ≡ true) ↔ IsWholeLine (entry_at (stream q m steps)) (takings_at addresses q m steps)
