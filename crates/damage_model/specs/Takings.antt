-- What instructions take of the queues, each entry by its place, and which instructions retire.
use Rattle.std.specs.Prelude.{ℕ, zero, suc, ◌+◌, ◌-◌, Bool, true, false, List, [], ◌∷◌, ◌++◌, length, Option, Some, None, if◌then◌else◌}
use Rattle.std.specs.List.{flat_map}
use Rattle.sync_status.specs.declared.Verdict.{Verdict}
use Rattle.sync_status.specs.declared.Verdict.TheVariants.{Take}
use Rattle.fifo_model.specs.declared.Entry.{Entry}
use Rattle.fifo_model.specs.declared.Queue.{Queue}
use Rattle.fifo_model.specs.Queues.{queue_state}
use Rattle.machine_model.specs.declared.Demands.{Demands}
use Rattle.machine_model.specs.declared.Did.{Did}
use Rattle.machine_model.specs.declared.Did.TheVariants.{Retired}
use Rattle.machine_model.specs.declared.Job.{Job}
use Rattle.machine_model.specs.declared.Job.TheVariants.{Running}
use Rattle.machine_model.specs.States.{State}
use Rattle.machine_model.specs.Turns.{apply, counted, is_done, lowest_served}
use Rattle.machine_model.specs.Seen.{Application, address_before, application, seen, verdict_of}
use Rattle.machine_model.specs.Steps.{Step, Turn, step}
use Rattle.field_law.specs.Arrivals.{is_queue}

-- bytes that the instruction at an address takes of an entry: so many, from the `taken` that were taken before. The place
-- of the entry is how many left its queue before it, from where the count begins
pub record Taking : Type 0 where
  pub at : ℕ
  pub place : ℕ
  pub entry : Entry
  pub taken : ℕ
  pub count : ℕ

-- how many entries leave a queue between two states, where none enters it
abbrev pub left : Queue → State → State → ℕ
left q before after =
    length (queue_state q before.queues).entries - length (queue_state q after.queues).entries

abbrev pub taking_by : Verdict → ℕ → ℕ → Application → List Taking
taking_by (Take count) at place a =
    record { at = at; place = place; entry = a.entry; taken = a.taken; count = count } ∷ []
taking_by _ at place a = []

abbrev pub takings_of : ℕ → ℕ → List Application → List Taking
takings_of at place made = flat_map (λ a. taking_by (verdict_of a) at place a) made

-- what a burst takes of a queue, application by application
abbrev pub burst_takings : ℕ → Queue → ℕ → ℕ → State → List Taking
burst_takings zero q at place m = []
burst_takings (suc count) q at place m =
    takings_of at place (application q m)
    ++ (elim (apply q m) [ None ↦ [] | Some after ↦ burst_takings count q at (place + left q m after) after ])

abbrev pub served_takings : Option Queue → Queue → ℕ → ℕ → State → List Taking
served_takings None q at place m = []
served_takings (Some served) q at place m = if is_queue served q then burst_takings m.trigger q at place m else []

abbrev pub ran_takings : Bool → Demands → Queue → ℕ → ℕ → State → List Taking
ran_takings true ds q at place m = []
ran_takings false ds q at place m = served_takings (lowest_served ds m) q at place m

abbrev pub worked_takings : Job → Queue → ℕ → State → List Taking
worked_takings (Running instr ds) q place m = ran_takings (is_done ds) ds q (address_before m.pc instr) place m
worked_takings _ q place m = []

abbrev pub takings_if : Bool → Queue → ℕ → State → List Taking
takings_if false q place m = []
takings_if true q place m = worked_takings m.job q place m

-- the takings of a step from a queue, of which so many entries left before
abbrev pub step_takings : Queue → ℕ → State → Step → List Taking
step_takings q place m Turn = takings_if m.risc_on q place (counted m)
step_takings q place m _ = []

-- the takings of steps, in their order
abbrev pub takings : Queue → ℕ → State → List Step → List Taking
takings q place m [] = []
takings q place m (s ∷ steps) =
    step_takings q place m s ++ takings q (place + left q m (step s m)) (step s m) steps

-- the address of the instruction that a step retires
abbrev pub retired_at : Did → ℕ → List ℕ
retired_at Retired at = at ∷ []
retired_at _ at = []

abbrev pub step_retires : State → Step → List ℕ
step_retires m Turn = retired_at (seen m).did (seen m).at
step_retires m _ = []

abbrev pub retires : State → List Step → List ℕ
retires m [] = []
retires m (s ∷ steps) = step_retires m s ++ retires (step s m) steps
