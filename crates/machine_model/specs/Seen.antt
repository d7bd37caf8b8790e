-- What one turn did, and at which instruction.
use Rattle.std.specs.Prelude.{◌≡◌, ℕ, zero, suc, ◌+◌, ◌-◌, ◌*◌, Bool, true, false, not, ◌&&◌, List, [], ◌∷◌, ◌++◌, length, Option, Some}
use Rattle.std.specs.Prelude.{None, Ok, Err, if◌then◌else◌, ◌==◌}
use Rattle.std.specs.List.{list_any, sum_by}
use Rattle.risc_word.specs.declared.Code.{Code}
use Rattle.risc_word.specs.declared.Instr.{Instr}
use Rattle.risc_word.specs.declared.Instr.TheVariants.{Jump, Sync}
use Rattle.risc_word.specs.Words.{Reading, code_number, encoded}
use Rattle.sync_status.specs.declared.Verdict.{Verdict}
use Rattle.sync_status.specs.declared.Verdict.TheVariants.{Take, Discard, Broken, Missing}
use Rattle.sync_status.specs.Statuses.{kind_of, valid_bytes, is_end, verdict_on}
use Rattle.fifo_model.specs.declared.Entry.{Entry}
use Rattle.fifo_model.specs.declared.Queue.{Queue}
use Rattle.fifo_model.specs.Queues.{queue_state, front}
use Rattle.machine_model.specs.declared.Demand.{Demand}
use Rattle.machine_model.specs.declared.Demands.{Demands}
use Rattle.machine_model.specs.declared.Did.{Did}
use Rattle.machine_model.specs.declared.Did.TheVariants.{Still, Jumped, Synced, Passed, Begun, Dropped, Matched, Missed, Retired, Moved}
use Rattle.machine_model.specs.declared.Did.TheVariants.{GivenUp}
use Rattle.machine_model.specs.declared.Job.{Job}
use Rattle.machine_model.specs.declared.Job.TheVariants.{Idle, Waiting, Running}
use Rattle.machine_model.specs.declared.Seen.{Seen}
use Rattle.machine_model.specs.declared.Skipping.{Skipping}
use Rattle.machine_model.specs.declared.Skipping.TheVariants.{Nothing}
use Rattle.machine_model.specs.Paths.{fetch}
use Rattle.machine_model.specs.States.{State}
use Rattle.machine_model.specs.Turns.{apply, common_code, demand_on, is_cut_short, is_done, lowest_served, lowest_stray}

-- An application to the front of a queue: the entry there, how many of its bytes were taken before, and what the
-- instruction asked of the queue
pub record Application : Type 0 where
  pub entry : Entry
  pub taken : ℕ
  pub demand : Demand

abbrev pub verdict_of : Application → Verdict
verdict_of a = verdict_on (kind_of a.entry.status) a.demand.needs_sol a.taken a.demand.rest

-- bytes are taken
abbrev pub takes_by : Verdict → Bool
takes_by (Take count) = true
takes_by _ = false

abbrev pub takes : Application → Bool
takes a = takes_by (verdict_of a)

-- how many bytes are taken
abbrev pub taken_by : Verdict → ℕ
taken_by (Take count) = count
taken_by _ = 0

abbrev pub bytes_taken : List Application → ℕ
bytes_taken made = sum_by (λ a. taken_by (verdict_of a)) made

-- the last byte of a line's last entry is taken, so the entry leaves its queue
abbrev pub ends_by : Verdict → Application → Bool
ends_by (Take count) a = is_end (kind_of a.entry.status) && a.taken + count == valid_bytes a.entry.status
ends_by _ a = false

abbrev pub ends : Application → Bool
ends a = ends_by (verdict_of a) a

-- an entry is discarded though no line start is awaited: it is a reserved one
abbrev pub discards_reserved_by : Verdict → Application → Bool
discards_reserved_by Discard a = not a.demand.needs_sol
discards_reserved_by _ a = false

abbrev pub discards_reserved : Application → Bool
discards_reserved a = discards_reserved_by (verdict_of a) a

-- the instruction is given up: at a control code, at the start of the next line, or where the line ends too early
abbrev pub gives_up_by : Verdict → Application → Bool
gives_up_by Broken a = true
gives_up_by Missing a = true
gives_up_by Discard a = false
gives_up_by (Take count) a = is_cut_short a.entry a.taken count a.demand.rest

abbrev pub gives_up : Application → Bool
gives_up a = gives_up_by (verdict_of a) a

-- the application that is made to a queue, if one is
abbrev pub served_application : Option Entry → Queue → Demands → State → List Application
served_application None q ds m = []
served_application (Some entry) q ds m =
    if (demand_on q ds).rest == 0 then []
    else record { entry = entry; taken = (queue_state q m.queues).taken; demand = demand_on q ds } ∷ []

abbrev pub application_in : Job → Queue → State → List Application
application_in (Running instr ds) q m = served_application (front (queue_state q m.queues)) q ds m
application_in _ q m = []

abbrev pub application : Queue → State → List Application
application q m = application_in m.job q m

-- the applications of a burst
abbrev pub applications : ℕ → Queue → State → List Application
applications zero q m = []
applications (suc count) q m =
    application q m ++ (elim (apply q m) [ None ↦ [] | Some after ↦ applications count q after ])

-- where the instruction is that waits or runs: pc is the address after its words
abbrev pub address_before : ℕ → Instr → ℕ
address_before pc instr = pc - 4 * length (encoded instr)

-- a turn that applies nothing to a queue
abbrev pub seen_alone : Did → ℕ → Seen
seen_alone did at = record { did = did; at = at; took = false; ended = false; reserved = false }

-- Fetching. A sound program has no fault, so the answer for one is never seen
abbrev pub data_did : Skipping → Did
data_did Nothing = Begun
data_did _ = Passed

abbrev pub instr_did : Instr → Skipping → Did
instr_did (Jump ctl addr) skipping = Jumped
instr_did (Sync ctl resync code) skipping = Synced
instr_did instr skipping = data_did skipping

abbrev pub fetched_did : Reading → Skipping → Did
fetched_did (Err fault) skipping = Still
fetched_did (Ok (instr, count)) skipping = instr_did instr skipping

-- waiting
abbrev pub code_did : Option Code → Code → Did
code_did None awaited = Still
code_did (Some code) awaited = if code_number code == code_number awaited then Matched else Missed

abbrev pub waited_did : Option Queue → Option Code → Code → Did
waited_did (Some q) code awaited = Dropped
waited_did None code awaited = code_did code awaited

-- running
abbrev pub seen_burst : Queue → ℕ → List Application → Seen
seen_burst q at made =
    record {
      did = if list_any gives_up made then GivenUp q else Moved q;
      at = at;
      took = list_any takes made;
      ended = list_any ends made;
      reserved = list_any discards_reserved made;
    }

abbrev pub seen_served : Option Queue → ℕ → State → Seen
seen_served None at m = seen_alone Still at
seen_served (Some q) at m = seen_burst q at (applications m.trigger q m)

abbrev pub seen_running : Bool → ℕ → Demands → State → Seen
seen_running true at ds m = seen_alone Retired at
seen_running false at ds m = seen_served (lowest_served ds m) at m

abbrev pub seen_in : Job → State → Seen
seen_in Idle m = seen_alone (fetched_did (fetch m.program m.pc) m.skipping) m.pc
seen_in (Waiting ctl resync code) m =
    seen_alone (waited_did (lowest_stray m.queues) (common_code m.queues) code) (address_before m.pc (Sync ctl resync code))
seen_in (Running instr ds) m = seen_running (is_done ds) (address_before m.pc instr) ds m

abbrev pub seen_if : Bool → State → Seen
seen_if false m = seen_alone Still m.pc
seen_if true m = seen_in m.job m

-- what the turn at a state does
abbrev pub seen : State → Seen
seen m = seen_if m.risc_on m

-- how many bytes the burst at a state takes of its queue, stored or not
abbrev pub taken_served : Option Queue → State → ℕ
taken_served None m = 0
taken_served (Some q) m = bytes_taken (applications m.trigger q m)

abbrev pub taken_running : Bool → Demands → State → ℕ
taken_running true ds m = 0
taken_running false ds m = taken_served (lowest_served ds m) m

abbrev pub taken_in : Job → State → ℕ
taken_in (Running instr ds) m = taken_running (is_done ds) ds m
taken_in _ m = 0

abbrev pub taken_if : Bool → State → ℕ
taken_if false m = 0
taken_if true m = taken_in m.job m

abbrev pub taken : State → ℕ
taken m = taken_if m.risc_on m

-- a data instruction that runs is at this address, and pc is the address after it
pub record StandsAt (m : State) (instr : Instr) (at : ℕ) : Type 0 where
  pub stands : fetch m.program at ≡ Ok (instr, length (encoded instr))
  pub after : m.pc ≡ at + 4 * length (encoded instr)
