-- What holds of every trace.
use Rattle.std.specs.Prelude.{◌≡◌, ◌⊎◌, ℕ, List, [], ◌++◌}
use Rattle.machine_model.specs.Steps.{Step, Turn, run, step}
use Rattle.machine_model.specs.Turns.{counted}
use Rattle.dma_machine.specs.Facts.{IsMachine}
use Rattle.risc_listing.specs.Lines.{line_end}
use Rattle.turn_trace.specs.Traces.{Tracing, after, after_all, lines, numbers, told_by}

-- the machine that is traced is that of the steps
abbrev pub TracesTheRun : Type 0
TracesTheRun = (t : Tracing) (steps : List Step) → (after_all t steps).machine ≡ run t.machine steps

-- a step has no text, or its text ends with the numbers of the state after it
abbrev pub EndsWithNumbers : Tracing → Step → Type 0
EndsWithNumbers t s = (told_by t s ≡ []) ⊎ ((before : List ℕ) × (told_by t s ≡ before ++ (numbers (after t s).machine ++ line_end)))

-- a step without a text is a turn that does nothing but count
abbrev pub OnlyCounts : Tracing → Step → Type 0
OnlyCounts t s = (s ≡ Turn) × (step s t.machine ≡ counted t.machine)

abbrev pub UntoldTurnsOnlyCount : Type 0
UntoldTurnsOnlyCount = (t : Tracing) (s : Step) → IsMachine t.machine → told_by t s ≡ [] → OnlyCounts t s

-- the text of steps is that of the first and then that of the rest
abbrev pub TextsAreAppended : Type 0
TextsAreAppended = (t : Tracing) (first later : List Step) → lines t (first ++ later) ≡ lines t first ++ lines (after_all t first) later
