-- The turn behind the push of an entry that falls through stores its bytes, and leaves the queues as they were.
use Rattle.std.proofs.Common.{◌≡◌, ℕ, ◌+◌, ◌<◌, ◌≤◌, ◌⊎◌, inl, inr, true, false, not, ◌==◌, List, [], ◌∷◌, ◌++◌, length, Option, Some}
use Rattle.std.proofs.Common.{None, refl, sym, ap, subst, ◌∙◌, arith, if◌then◌else◌}
use Rattle.std.specs.Prelude.{◌&&◌, is_none}
use Rattle.std.proofs.lemmas.Bool.{and_parts, and_right, not-true}
use Rattle.risc_word.specs.declared.Instr.{Instr}
use Rattle.sync_status.specs.declared.Verdict.TheVariants.{Take}
use Rattle.sync_status.specs.Statuses.{kind_of, valid_bytes, verdict_on}
use Rattle.fifo_model.specs.declared.Entry.{Entry}
use Rattle.fifo_model.specs.declared.Queue.{Queue}
use Rattle.fifo_model.specs.declared.Queue.TheVariants.{One, Two, Three}
use Rattle.fifo_model.specs.Queues.{QueueState, Queues, IsFifo, IsQueue, entered, first, front, front_valid, is_full, is_ready, more}
use Rattle.fifo_model.specs.Queues.{overrun, queue_state, taken_from, taken_more, valid_of, with_queue_state}
use Rattle.fifo_model.proofs.ChangesKeepQueues.{IsQueue-queue_state}
use Rattle.fifo_model.proofs.QueueStates.{queue_state-with_queue_state, with_queue_state-same, with_queue_state-twice}
use Rattle.machine_model.specs.declared.Demand.{Demand}
use Rattle.machine_model.specs.declared.Demands.{Demands}
use Rattle.machine_model.specs.declared.Did.TheVariants.{Moved}
use Rattle.machine_model.specs.declared.Job.{Job}
use Rattle.machine_model.specs.declared.Job.TheVariants.{Idle, Running, Waiting}
use Rattle.machine_model.specs.declared.Seen.{Seen}
use Rattle.machine_model.specs.Seen.{Application, address_before, application_in, applications, seen, seen_alone, seen_burst, seen_if}
use Rattle.machine_model.specs.Seen.{seen_in, seen_running, seen_served, served_application}
use Rattle.machine_model.specs.States.{State}
use Rattle.machine_model.specs.Steps.{push, push_if, with_fbus_if}
use Rattle.machine_model.specs.Turns.{Store, apply, apply_in, burst, burst_of, demand_less, demand_on, ended, is_done, is_served, judged}
use Rattle.machine_model.specs.Turns.{lowest_served, ran, served, stored_all, stores_of, took, turn_if, verdict_at, with_demand, worked}
use Rattle.dma_machine.specs.declared.engine.Phase.{Phase}
use Rattle.dma_machine.specs.declared.engine.Phase.TheVariants as phase
use Rattle.dma_machine.specs.declared.engine.Wait.{Wait}
use Rattle.dma_machine.specs.Views.{job_of}
use Rattle.dma_machine.specs.Counts.{acted}
use Rattle.dma_machine.specs.FallThrough.{MovesWhole, fallen_through, falls_in, falls_through, moved_whole, none_before}
use Rattle.dma_machine.specs.WholeTakes.{takes_whole}
use Rattle.dma_machine.proofs.Noting.{all_noted-seen_burst, whole_noted}
use Rattle.dma_machine.proofs.WholeTakes.{IsWhole, plain_whole}

-- ---- an empty queue

pub record IsEmpty (held : QueueState) : Type 0 where
  pub entries : held.entries ≡ []
  pub taken : held.taken ≡ 0
  pub room : is_full held ≡ false

no_front : (entries : List Entry) → is_none (first entries) ≡ true → entries ≡ []
no_front [] e = refl
no_front (entry ∷ rest) e = absurd cc

none_taken : (held : QueueState) → front_valid held ≡ 0 → (held.taken ≡ 0) ⊎ (held.taken < front_valid held) → held.taken ≡ 0
none_taken held none (inl e) = e
none_taken held none (inr less) = omega (arith, none, less)

pub unequal : (a b : ℕ) → a < b → (a == b) ≡ false
unequal a b less = grind (arith, less)

pub empty_queue : (held : QueueState) → IsQueue held → is_none (front held) ≡ true → IsEmpty held
empty_queue held is none =
    let entries : held.entries ≡ [] = no_front held.entries none in
    let count : length held.entries ≡ 0 = ap length entries in
    record {
      entries = entries;
      taken = none_taken held (ap (λ rest. valid_of (first rest)) entries) is.part;
      room = unequal (length held.entries) held.capacity (omega (arith, count, is.some_room));
    }

-- ---- the queues with an entry more

-- without it they are as they were
put_back : (q : Queue) (held now : QueueState) (queues : Queues) → now ≡ queue_state q queues →
    with_queue_state q now (with_queue_state q held queues) ≡ queues
put_back q held now queues e =
    with_queue_state-twice q held now queues ∙ ap (λ before. with_queue_state q before queues) e ∙ with_queue_state-same q queues

four_taken : (entry : Entry) (held : QueueState) → valid_bytes entry.status ≡ 4 → IsEmpty held → taken_from 4 (entered entry held) ≡ held
four_taken entry held valid is =
    let all : (held.taken + 4 == valid_bytes entry.status) ≡ true = grind (arith, valid, is.taken) in
    ap (λ rest. taken_more 4 (record held { entries = rest ++ entry ∷ [] }) (rest ++ entry ∷ [])) is.entries
    ∙ ap (λ whole. if whole then (record held { entries = []; taken = 0 })
    else (record held { entries = entry ∷ []; taken = held.taken + 4 })) all
    ∙ ap (λ rest. record held { entries = rest; taken = 0 }) (sym is.entries)
    ∙ ap (λ taken. record held { taken = taken }) (sym is.taken)

-- ---- what is asked

pub asks_some : (rest : ℕ) → 4 ≤ rest → (rest == 0) ≡ false
asks_some rest some = grind (arith, some)

-- so the instruction is not done
pub not_done : (q : Queue) (ds : Demands) → ((demand_on q ds).rest == 0) ≡ false → is_done ds ≡ false
not_done One ds e = ap (λ none. none && (ds.two.rest == 0) && (ds.three.rest == 0)) e
not_done Two ds e = ap (λ none. none && (ds.three.rest == 0)) (and_right (ds.one.rest == 0) (ds.two.rest == 0) e)
not_done Three ds e = and_right ((ds.one.rest == 0) && (ds.two.rest == 0)) (ds.three.rest == 0) e

-- and the queue is the lowest one that is served
pub lowest : (q : Queue) (ds : Demands) (m : State) (held : QueueState) →
    none_before q ds m ≡ true → is_served q ds (record m { queues = with_queue_state q held m.queues }) ≡ true →
    lowest_served ds (record m { queues = with_queue_state q held m.queues }) ≡ Some q
lowest One ds m held before e =
    ap (λ one. if one then Some One else (if is_served Two ds m then Some Two else (if is_served Three ds m then Some Three else None))) e
lowest Two ds m held before e =
    ap (λ one. if one then Some One else (if is_served Two ds (record m { queues = with_queue_state Two held m.queues }) then Some Two
    else (if is_served Three ds m then Some Three else None)))
    (not-true _ before)
    ∙ ap (λ two. if two then Some Two else (if is_served Three ds m then Some Three else None)) e
lowest Three ds m held before e =
    let parts = and_parts (not (is_served One ds m)) (not (is_served Two ds m)) before in
    ap (λ one. if one then Some One else (if is_served Two ds m then Some Two
    else (if is_served Three ds (record m { queues = with_queue_state Three held m.queues }) then Some Three else None)))
    (not-true _ parts.0)
    ∙ ap (λ two. if two
    then Some Two else (if is_served Three ds (record m { queues = with_queue_state Three held m.queues }) then Some Three else None))
    (not-true _ parts.1)
    ∙ ap (λ three. if three then Some Three else None) e

-- ---- the push and the turn

-- behind the last application of a burst there are no others
abbrev others_after : Queue → Option State → List Application
others_after q after = elim after as (λ _. List Application) [ None ↦ [] | Some next ↦ applications 0 q next ]

-- what `falls_in` and `falls_through` ask of the machine, one by one
pub record Falls (q : Queue) (entry : Entry) (m : State) (ds : Demands) : Type 0 where
  pub on : m.fifo_on ≡ true
  pub runs : m.risc_on ≡ true
  pub one : m.trigger ≡ 1
  pub none : is_none (front (queue_state q m.queues)) ≡ true
  pub takes : takes_whole (kind_of entry.status) (demand_on q ds).needs_sol 0 (demand_on q ds).rest ≡ true
  pub before : none_before q ds m ≡ true

module _ (q : Queue) (entry : Entry) (m : State) (instr : Instr) (ds : Demands) (fifo : IsFifo m.queues)
    (running : m.job ≡ Running instr ds) (falls : Falls q entry m ds) where
  abbrev held : QueueState
  held = queue_state q m.queues

  abbrev rest : ℕ
  rest = (demand_on q ds).rest

  empty : IsEmpty held
  empty = empty_queue held (IsQueue-queue_state q m.queues fifo) falls.none

  whole : IsWhole (kind_of entry.status) (demand_on q ds).needs_sol 0 rest
  whole = plain_whole _ _ _ _ falls.takes

  -- behind the push
  abbrev came : State
  came = record m { queues = with_queue_state q (entered entry held) m.queues }

  pub entry_came : push q entry m ≡ came
  entry_came =
      ap (λ is_on. push_if is_on q entry m) falls.on
      ∙ ap (λ full. record (with_fbus_if full m) {
        queues = if full then (with_queue_state q (overrun held) m.queues) else (with_queue_state q (entered entry held) m.queues);
      }) empty.room

  asks : (rest == 0) ≡ false
  asks = asks_some rest whole.asked

  is_front : front (queue_state q came.queues) ≡ Some entry
  is_front =
      ap front (queue_state-with_queue_state q (entered entry held) m.queues) ∙ ap (λ entries. first (entries ++ entry ∷ [])) empty.entries

  ready : is_served q ds came ≡ true
  ready =
      ap (λ none. not none && is_ready m.trigger (queue_state q came.queues)) asks
      ∙ ap (λ trigger. is_ready trigger (queue_state q came.queues)) falls.one
      ∙ ap (is_ready 1) (queue_state-with_queue_state q (entered entry held) m.queues)
      ∙ ap (λ entries. is_ready 1 (record held { entries = entries ++ entry ∷ [] })) empty.entries

  -- the turn takes it
  verdict : verdict_on (kind_of entry.status) (demand_on q ds).needs_sol (queue_state q came.queues).taken rest ≡ Take 4
  verdict =
      ap (λ (at : QueueState). verdict_on (kind_of entry.status) (demand_on q ds).needs_sol at.taken rest)
      (queue_state-with_queue_state q (entered entry held) m.queues)
      ∙ ap (λ taken. verdict_on (kind_of entry.status) (demand_on q ds).needs_sol taken rest) empty.taken
      ∙ whole.verdict

  applied : apply q came ≡ Some (took q 4 instr ds entry came)
  applied =
      ap (λ job. apply_in job q came) running
      ∙ ap (λ at. served at q instr ds came) is_front
      ∙ ap (λ none. if none then None else Some (judged (verdict_at q ds entry came) q instr ds entry came)) asks
      ∙ ap (λ v. Some (judged v q instr ds entry came)) verdict
      ∙ ap (λ end. Some (ended (end && ((queue_state q came.queues).taken + 4 == valid_bytes entry.status) && not (rest == 4)) instr
      (took q 4 instr ds entry came))) whole.no_end

  -- and its queue is empty again
  back : took q 4 instr ds entry came ≡ fallen_through q instr ds entry m
  back =
      ap (λ (at : QueueState). taken_as at) (queue_state-with_queue_state q (entered entry held) m.queues)
      ∙ ap (λ taken. stored_as taken (with_queue_state q (taken_from 4 (entered entry held)) came.queues)) empty.taken
      ∙ ap (λ queues. stored_as 0 queues)
      (put_back q (entered entry held) (taken_from 4 (entered entry held)) m.queues (four_taken entry held whole.valid empty))
    where
      stored_as : ℕ → Queues → State
      stored_as taken queues =
          let d : Demand = demand_on q ds in
          let stores : List Store = stores_of instr d entry taken 4 in
          record m {
            job = Running instr (with_demand q (demand_less 4 d) ds);
            queues = queues;
            memory = stored_all m.memory stores;
            moved = more m.moved (length stores);
          }

      taken_as : QueueState → State
      taken_as at = stored_as at.taken (with_queue_state q (taken_from 4 at) came.queues)

  lowest_is : lowest_served ds came ≡ Some q
  lowest_is = lowest q ds m (entered entry held) falls.before ready

  pub entry_falls : acted (push q entry m) ≡ fallen_through q instr ds entry m
  entry_falls =
      ap acted entry_came
      ∙ ap (λ is_on. turn_if is_on came) falls.runs
      ∙ ap (λ job. worked job came) running
      ∙ ap (λ done. ran done instr ds came) (not_done q ds asks)
      ∙ ap (λ at. burst_of at came) lowest_is
      ∙ ap (λ count. burst count q came) falls.one
      ∙ ap (λ after. elim after [ None ↦ came | Some state ↦ state ]) applied
      ∙ back

  -- ---- what is seen of the turn

  abbrev whole_take : Application
  whole_take = record { entry = entry; taken = (queue_state q came.queues).taken; demand = demand_on q ds }

  takes_it : takes_whole (kind_of entry.status) (demand_on q ds).needs_sol whole_take.taken rest ≡ true
  takes_it =
      ap (λ (at : QueueState). takes_whole (kind_of entry.status) (demand_on q ds).needs_sol at.taken rest)
      (queue_state-with_queue_state q (entered entry held) m.queues)
      ∙ ap (λ taken. takes_whole (kind_of entry.status) (demand_on q ds).needs_sol taken rest) empty.taken
      ∙ falls.takes

  -- it is the only application
  one_application : applications 1 q came ≡ whole_take ∷ []
  one_application =
      ap (λ job. application_in job q came ++ others_after q (apply q came)) running
      ∙ ap (λ at. served_application at q ds came ++ others_after q (apply q came)) is_front
      ∙ ap (λ none. (if none then [] else whole_take ∷ []) ++ others_after q (apply q came)) asks
      ∙ ap (λ after. (whole_take ∷ []) ++ others_after q after) applied

  abbrev at : ℕ
  at = address_before came.pc instr

  came_seen : seen came ≡ moved_whole q at
  came_seen =
      ap (λ is_on. seen_if is_on came) falls.runs
      ∙ ap (λ job. seen_in job came) running
      ∙ ap (λ done. seen_running done at ds came) (not_done q ds asks)
      ∙ ap (λ served. seen_served served at came) lowest_is
      ∙ ap (λ count. seen_burst q at (applications count q came)) falls.one
      ∙ ap (seen_burst q at) one_application
      ∙ sym (all_noted-seen_burst q at (whole_take ∷ []))
      ∙ sym (whole_noted q whole_take (seen_alone (Moved q) at) takes_it)

  pub entry_seen : MovesWhole q (seen (push q entry m))
  entry_seen =
      let is : seen (push q entry m) ≡ moved_whole q at = ap seen entry_came ∙ came_seen in
      is ∙ ap (moved_whole q) (sym (ap (λ (s : Seen). s.at) is))

-- by what is asked of an entry before it is pushed
falls_in_parts : (q : Queue) (entry : Entry) (m : State) (instr : Instr) (ds : Demands) → m.job ≡ Running instr ds →
    falls_through q entry.status m ≡ true → Falls q entry m ds
falls_in_parts q entry m instr ds running e =
    let on = and_parts m.fifo_on (m.risc_on && falls_in m.job q entry.status m) e in
    let runs = and_parts m.risc_on (falls_in m.job q entry.status m) on.1 in
    let falls : falls_in (Running instr ds) q entry.status m ≡ true = subst (λ job. falls_in job q entry.status m ≡ true) running runs.1 in
    let one =
    and_parts (m.trigger == 1) (is_none (front (queue_state q m.queues))
    && (takes_whole (kind_of entry.status) (demand_on q ds).needs_sol 0 (demand_on q ds).rest && none_before q ds m)) falls in
    let none =
    and_parts (is_none (front (queue_state q m.queues)))
    (takes_whole (kind_of entry.status) (demand_on q ds).needs_sol 0 (demand_on q ds).rest && none_before q ds m) one.1 in
    let takes =
    and_parts (takes_whole (kind_of entry.status) (demand_on q ds).needs_sol 0 (demand_on q ds).rest) (none_before q ds m) none.1 in
    record { on = on.0; runs = runs.0; one = grind (arith, one.0); none = none.0; takes = takes.0; before = takes.1 }

pub falls_acted : (q : Queue) (entry : Entry) (m : State) (instr : Instr) (ds : Demands) → IsFifo m.queues → m.job ≡ Running instr ds →
    falls_through q entry.status m ≡ true →
    acted (push q entry m) ≡ fallen_through q instr ds entry m
falls_acted q entry m instr ds fifo running e = entry_falls q entry m instr ds fifo running (falls_in_parts q entry m instr ds running e)

-- an instruction runs
record FallsOn (q : Queue) (entry : Entry) (m : State) : Type 0 where
  instr : Instr
  demands : Demands
  runs : m.job ≡ Running instr demands
  falls : Falls q entry m demands

falls_on : (q : Queue) (entry : Entry) (m : State) → falls_through q entry.status m ≡ true → FallsOn q entry m
falls_on q entry m e =
    let on = and_parts m.fifo_on (m.risc_on && falls_in m.job q entry.status m) e in
    by_job m.job refl (and_parts m.risc_on (falls_in m.job q entry.status m) on.1).1
  where
    by_job : (job : Job) → m.job ≡ job → falls_in job q entry.status m ≡ true → FallsOn q entry m
    by_job Idle is falls = absurd cc
    by_job (Waiting ctl resync code) is falls = absurd cc
    by_job (Running instr ds) is falls = record { instr = instr; demands = ds; runs = is; falls = falls_in_parts q entry m instr ds is e }

pub falls_seen : (q : Queue) (entry : Entry) (m : State) → IsFifo m.queues → falls_through q entry.status m ≡ true →
    MovesWhole q (seen (push q entry m))
falls_seen q entry m fifo e =
    let on = falls_on q entry m e in
    entry_seen q entry m on.instr on.demands fifo on.runs on.falls

-- the machine runs an instruction
pub falls_running : (at : Phase) (wait : Wait) (instr : Instr) (ds : Demands) (q : Queue) (status : ℕ) (m : State) →
    m.job ≡ job_of at wait instr ds →
    falls_through q status m ≡ true → at ≡ phase.Running
falls_running at wait instr ds q status m is e =
    let on = and_parts m.fifo_on (m.risc_on && falls_in m.job q status m) e in
    let runs = and_parts m.risc_on (falls_in m.job q status m) on.1 in
    by_phase at (subst (λ job. falls_in job q status m ≡ true) is runs.1)
  where
    by_phase : (at : Phase) → falls_in (job_of at wait instr ds) q status m ≡ true → at ≡ phase.Running
    by_phase phase.Idle e = absurd cc
    by_phase phase.Waiting e = absurd cc
    by_phase phase.Running e = refl
