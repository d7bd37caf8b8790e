-- A plain entry falls through an open machine, and leaves it open where its queue is asked for more.
use Rattle.std.proofs.Common.{◌≡◌, ℕ, zero, suc, ◌+◌, ◌-◌, ◌<◌, ◌≤◌, ◌^◌, ◌==◌, Bool, true, false, not}
use Rattle.std.proofs.Common.{List, [], ◌∷◌, length, replicate, Option, Some, None, option_map}
use Rattle.std.proofs.Common.{refl, sym, ap, subst, ◌∙◌, arith}
use Rattle.std.specs.Prelude.{◌&&◌, ◌||◌, is_none, nat_le}
use Rattle.std.proofs.lemmas.Bool.{and_parts, not-true}
use Rattle.risc_word.specs.declared.Instr.{Instr}
use Rattle.risc_word.specs.Parts.{instr_off}
use Rattle.sync_status.specs.declared.StatusKind.{StatusKind}
use Rattle.sync_status.specs.declared.StatusKind.TheVariants.{Pixels}
use Rattle.sync_status.specs.Statuses.{is_control, kind_of}
use Rattle.fifo_model.specs.declared.Entry.{Entry}
use Rattle.fifo_model.specs.declared.Queue.{Queue}
use Rattle.fifo_model.specs.declared.Queue.TheVariants.{One, Two, Three}
use Rattle.fifo_model.specs.Queues.{IsFifo, first, front, is_ready, more, queue_state}
use Rattle.fifo_model.proofs.QueueStates.{with_queue_state-same}
use Rattle.machine_model.specs.declared.Demand.{Demand}
use Rattle.machine_model.specs.declared.Demands.{Demands}
use Rattle.machine_model.specs.declared.Job.{Job}
use Rattle.machine_model.specs.declared.Job.TheVariants.{Running}
use Rattle.page_table.specs.Blocks.{Block}
use Rattle.machine_model.specs.States.{State}
use Rattle.machine_model.specs.Steps.{Push, Turn, push, run}
use Rattle.machine_model.specs.Turns.{demand_less, demand_on, is_done, is_served, stored_all, stores_at, turn, with_demand}
use Rattle.dma_machine.specs.declared.engine.Phase.{Phase}
use Rattle.dma_machine.specs.declared.engine.Phase.TheVariants as phase
use Rattle.dma_machine.specs.declared.engine.Wait.{Wait}
use Rattle.dma_machine.specs.Views.{job_of}
use Rattle.dma_machine.specs.Counts.{with_turns}
use Rattle.dma_machine.specs.Facts.{IsMachine}
use Rattle.dma_machine.specs.FallThrough.{fallen_through, falls_in, falls_through, put_down}
use Rattle.dma_machine.specs.Stills.{have_begun, is_open, is_still, none_served, opens}
use Rattle.dma_machine.specs.WholeTakes.{takes_whole}
use Rattle.dma_machine.proofs.FallThrough.{falls_acted, not_done}
use Rattle.dma_machine.proofs.Machines.{IsMachine-step}
use Rattle.dma_machine.proofs.PlainTakes.{before, both, none_served-holding}
use Rattle.dma_machine.proofs.Standing.{IsOpen, is_still-turns, open_parts, open_still, still_acted}
use Rattle.dma_machine.proofs.Turns.{first_counted, still_times}
use Rattle.dma_machine.proofs.WholeBursts.{asked_now, count_all, count_at, put_all, put_at}

-- ---- a DWORD is stored where no lane is off

-- what is asked behind it
pub less_at : (d asked : Demand) (at : ℕ) → d ≡ asked → d.address ≡ Some at →
    (record { rest = d.rest - 4; address = Some (at + 4); needs_sol = false }) ≡ demand_less 4 asked
less_at d asked at same is =
    ap (λ (a : Option ℕ). record { rest = d.rest - 4; address = option_map (λ n. n + 4) a; needs_sol = false }) (sym is)
    ∙ ap (demand_less 4) same

pub less_none : (d asked : Demand) → d ≡ asked → d.address ≡ None →
    (record { rest = d.rest - 4; address = None; needs_sol = false }) ≡ demand_less 4 asked
less_none d asked same is =
    ap (λ (a : Option ℕ). record { rest = d.rest - 4; address = option_map (λ n. n + 4) a; needs_sol = false }) (sym is)
    ∙ ap (demand_less 4) same

pub dword_put : (q : Queue) (instr : Instr) (ds now : Demands) (job : Job) (memory : List Block) (moved : ℕ) (bytes : List ℕ) (m : State) →
    instr_off instr ≡ 0 → job ≡ Running instr now → now ≡ with_demand q (demand_less 4 (demand_on q ds)) ds →
    memory ≡ put_at m.memory (demand_on q ds).address bytes → moved ≡ more m.moved (count_at (demand_on q ds).address bytes) →
    (record m { job = job; memory = memory; moved = moved }) ≡ put_down q 4 instr ds 0 bytes m
dword_put q instr ds now job memory moved bytes m off runs less stored counted =
    let address : Option ℕ = (demand_on q ds).address in
    let running : Job = Running instr (with_demand q (demand_less 4 (demand_on q ds)) ds) in
    let all : List Block = stored_all m.memory (stores_at address (instr_off instr) 0 bytes) in
    ap (λ (at : Job). record m { job = at; memory = memory; moved = moved }) (runs ∙ ap (Running instr) less)
    ∙ ap (λ (blocks : List Block). record m { job = running; memory = blocks; moved = moved })
    (stored ∙ sym (put_all m.memory (instr_off instr) address bytes off))
    ∙ ap (λ (n : ℕ). record m { job = running; memory = all; moved = n })
    (counted ∙ ap (more m.moved) (sym (count_all m.memory (instr_off instr) address bytes off)))

-- ---- what an open machine has

begun_on : (q : Queue) (ds : Demands) → have_begun ds ≡ true → (demand_on q ds).needs_sol ≡ false
begun_on One ds e =
    let three = and_parts (not ds.one.needs_sol && not ds.two.needs_sol) (not ds.three.needs_sol) e in
    not-true _ (and_parts (not ds.one.needs_sol) (not ds.two.needs_sol) three.0).0
begun_on Two ds e =
    let three = and_parts (not ds.one.needs_sol && not ds.two.needs_sol) (not ds.three.needs_sol) e in
    not-true _ (and_parts (not ds.one.needs_sol) (not ds.two.needs_sol) three.0).1
begun_on Three ds e = not-true _ (and_parts (not ds.one.needs_sol && not ds.two.needs_sol) (not ds.three.needs_sol) e).1

begun_less : (q : Queue) (d : Demand) (ds : Demands) → d.needs_sol ≡ false → have_begun ds ≡ true → have_begun (with_demand q d ds) ≡ true
begun_less One d ds begun e =
    let three = and_parts (not ds.one.needs_sol && not ds.two.needs_sol) (not ds.three.needs_sol) e in
    both _ _ (both _ _ (ap not begun) (and_parts (not ds.one.needs_sol) (not ds.two.needs_sol) three.0).1) three.1
begun_less Two d ds begun e =
    let three = and_parts (not ds.one.needs_sol && not ds.two.needs_sol) (not ds.three.needs_sol) e in
    both _ _ (both _ _ (and_parts (not ds.one.needs_sol) (not ds.two.needs_sol) three.0).0 (ap not begun)) three.1
begun_less Three d ds begun e =
    let three = and_parts (not ds.one.needs_sol && not ds.two.needs_sol) (not ds.three.needs_sol) e in
    both _ _ three.0 (ap not begun)

unserved : (q : Queue) (ds : Demands) (m : State) → none_served ds m ≡ true → is_served q ds m ≡ false
unserved One ds m none =
    let three = and_parts (not (is_served One ds m) && not (is_served Two ds m)) (not (is_served Three ds m)) none in
    not-true _ (and_parts (not (is_served One ds m)) (not (is_served Two ds m)) three.0).0
unserved Two ds m none =
    let three = and_parts (not (is_served One ds m) && not (is_served Two ds m)) (not (is_served Three ds m)) none in
    not-true _ (and_parts (not (is_served One ds m)) (not (is_served Two ds m)) three.0).1
unserved Three ds m none = not-true _ (and_parts (not (is_served One ds m) && not (is_served Two ds m)) (not (is_served Three ds m)) none).1

-- a queue that is asked and isn't served isn't ready
unready : (asked ready : Bool) → asked ≡ true → (asked && ready) ≡ false → ready ≡ false
unready true ready is e = e
unready false ready is e = absurd cc

-- and is empty where one entry would make it ready
no_entries : (entries : List Entry) (woken : Bool) → (nat_le 1 (length entries) || woken) ≡ false → is_none (first entries) ≡ true
no_entries [] woken e = refl
no_entries (entry ∷ entries) woken e =
    let some : nat_le 1 (length (entry ∷ entries)) ≡ true = grind arith in absurd (clash (sym (ap (λ b. b || woken) some) ∙ e))
  where
    clash : true ≡ false → ⊥
    clash e = cc

whole : (kind : StatusKind) (sol : Bool) (rest : ℕ) → kind ≡ Pixels → sol ≡ false → 4 ≤ rest → takes_whole kind sol 0 rest ≡ true
whole kind sol rest is begun some =
    ap (λ k. takes_whole k sol 0 rest) is
    ∙ ap (λ s. takes_whole Pixels s 0 rest) begun
    ∙ (let e : nat_le 4 rest ≡ true = grind (arith, some) in e)

module _ (q : Queue) (entry : Entry) (m : State) (instr : Instr) (ds : Demands) (running : m.job ≡ Running instr ds)
    (opened : is_open m ≡ true) (plain : kind_of entry.status ≡ Pixels) (some : 4 < (demand_on q ds).rest) where
  opens_with : IsOpen instr ds m
  opens_with = open_parts instr ds m (ap (λ job. opens job m) (sym running) ∙ opened)

  none : none_served ds m ≡ true
  none = (and_parts _ (none_served ds m) opens_with.still).1

  one : m.trigger ≡ 1
  one = let e = opens_with.one in grind (arith, e)

  pub all_on : instr_off instr ≡ 0
  all_on = let e = opens_with.off in grind (arith, e)

  isnt_ready : is_ready m.trigger (queue_state q m.queues) ≡ false
  isnt_ready =
      let asks : ((demand_on q ds).rest == 0) ≡ false = grind (arith, some) in
      unready _ (is_ready m.trigger (queue_state q m.queues)) (ap not asks) (unserved q ds m none)

  is_empty : is_none (front (queue_state q m.queues)) ≡ true
  is_empty = no_entries (queue_state q m.queues).entries _ (ap (λ n. is_ready n (queue_state q m.queues)) (sym one) ∙ isnt_ready)

  -- the entry falls through
  pub falls_open : falls_through q entry.status m ≡ true
  falls_open =
      both _ _ opens_with.on
      (both _ _ opens_with.runs
      (ap (λ job. falls_in job q entry.status m) running
      ∙ both _ _ opens_with.one
      (both _ _ is_empty (both _ _ (whole _ _ _ plain (begun_on q ds opens_with.begun) (omega (arith, some))) (before q ds m none)))))

  -- behind it
  abbrev fallen : State
  fallen = fallen_through q instr ds entry m

  abbrev less : Demands
  less = with_demand q (demand_less 4 (demand_on q ds)) ds

  more_asked : is_done less ≡ false
  more_asked =
      let now = ap (λ (d : Demand). d.rest) (asked_now q (demand_less 4 (demand_on q ds)) ds) in
      let asks : ((demand_on q less).rest == 0) ≡ false = grind (arith, some, now) in
      not_done q less asks

  none_now : none_served less fallen ≡ true
  none_now =
      ap (λ queues. none_served less (record m { queues = queues })) (sym (with_queue_state-same q m.queues))
      ∙ none_served-holding q (demand_less 4 (demand_on q ds)) (queue_state q m.queues) ds m isnt_ready none

  pub open_behind : is_open fallen ≡ true
  open_behind =
      both _ _ (both _ _ (both _ _ (both _ _ (both _ _ opens_with.on opens_with.runs) opens_with.one) opens_with.off)
      (begun_less q (demand_less 4 (demand_on q ds)) ds refl opens_with.begun))
      (both _ _ (ap not more_asked) none_now)

  -- the turns behind the first do nothing
  pub falls_run : (count : ℕ) → 0 < count → m.turns < 2 ^ 64 → IsFifo m.queues →
      with_turns (more m.turns count) fallen ≡ run (push q entry m) (replicate count Turn)
  falls_run count many few fifo =
      let counted : State = with_turns (more m.turns count) fallen in
      let still : is_still counted ≡ true = is_still-turns (more m.turns count) fallen ∙ open_still fallen open_behind in
      first_counted count (push q entry m) fallen counted counted many (omega (arith, few))
      (sym (falls_acted q entry m instr ds fifo running falls_open)) refl
      (sym (still_times (count - 1) counted (still_acted counted still)))

-- an instruction runs
pub open_running : (at : Phase) (wait : Wait) (instr : Instr) (ds : Demands) (m : State) → m.job ≡ job_of at wait instr ds →
    is_open m ≡ true → at ≡ phase.Running
open_running phase.Idle wait instr ds m is e = absurd (bottom (ap (λ job. opens job m) (sym is) ∙ e))
  where
    bottom : false ≡ true → ⊥
    bottom f = cc
open_running phase.Waiting wait instr ds m is e = absurd (bottom (ap (λ job. opens job m) (sym is) ∙ e))
  where
    bottom : false ≡ true → ⊥
    bottom f = cc
open_running phase.Running wait instr ds m is e = refl

-- it leaves a machine
turns_leave : (count : ℕ) (m : State) → IsMachine m → IsMachine (run m (replicate count Turn))
turns_leave zero m h = h
turns_leave (suc count) m h = turns_leave count (turn m) (IsMachine-step Turn m (turn m) refl tt tt h)

pub falls_leave : (fell : Bool) (q : Queue) (entry : Entry) (count : ℕ) (m after : State) →
    (fell ≡ true → after ≡ run (push q entry m) (replicate count Turn)) → (fell ≡ false → after ≡ m) →
    is_control (kind_of entry.status) ≡ false → IsMachine m → IsMachine after
falls_leave true q entry count m after ran same plain h =
    subst IsMachine (sym (ran refl)) (turns_leave count (push q entry m) (IsMachine-step (Push q entry) m _ refl plain tt h))
falls_leave false q entry count m after ran same plain h = subst IsMachine (sym (same refl)) h
