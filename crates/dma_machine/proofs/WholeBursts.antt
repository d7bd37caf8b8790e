-- A burst takes plain entries whole, and stores their bytes one behind the other.
use Rattle.std.proofs.Common.{◌≡◌, ℕ, suc, ◌+◌, ◌*◌, ◌-◌, ◌<◌, ◌≤◌, Bool, true, false, not, List, [], ◌∷◌, ◌++◌, length, Option, Some, None}
use Rattle.std.proofs.Common.{refl, sym, ap, subst, ◌∙◌, arith, if◌then◌else◌, ◌==◌}
use Rattle.std.specs.Prelude.{◌&&◌, ◌||◌, nat_le}
use Rattle.std.specs.List.{list_any}
use Rattle.std.specs.Option.{option_map}
use Rattle.std.proofs.lemmas.List.{length-append}
use Rattle.page_table.specs.Blocks.{Block, stored, stored_run}
use Rattle.risc_word.specs.declared.Instr.{Instr}
use Rattle.risc_word.specs.Parts.{instr_off}
use Rattle.sync_status.specs.declared.Verdict.TheVariants.{Take}
use Rattle.sync_status.specs.Statuses.{kind_of, valid_bytes, verdict_on}
use Rattle.fifo_model.specs.declared.Entry.{Entry}
use Rattle.fifo_model.specs.declared.Queue.{Queue}
use Rattle.fifo_model.specs.declared.Queue.TheVariants.{One, Two, Three}
use Rattle.fifo_model.specs.Queues.{QueueState, Queues, front, is_ready, lane_bytes, more, queue_state, taken_from, wakes, with_queue_state}
use Rattle.fifo_model.proofs.QueueStates.{queue_state-with_queue_state, with_queue_state-twice}
use Rattle.machine_model.specs.declared.Demand.{Demand}
use Rattle.machine_model.specs.declared.Demands.{Demands}
use Rattle.machine_model.specs.declared.Did.TheVariants.{Moved}
use Rattle.machine_model.specs.declared.Job.TheVariants.{Running}
use Rattle.machine_model.specs.declared.Seen.{Seen}
use Rattle.machine_model.specs.PlainEntries.{dwords_of, plain_entry}
use Rattle.machine_model.specs.Seen.{Application, address_before, application, application_in, applications, seen, seen_alone, seen_burst}
use Rattle.machine_model.specs.Seen.{seen_if, seen_in, seen_running, seen_served, served_application}
use Rattle.machine_model.specs.States.{State}
use Rattle.machine_model.specs.Turns.{Store, apply, apply_in, burst, burst_of, demand_less, demand_on, ended, is_served, judged}
use Rattle.machine_model.specs.Turns.{lowest_served}
use Rattle.machine_model.specs.Turns.{ran, served, stored_all, stores_at, stores_of, took, turn_if, verdict_at, with_demand, worked}
use Rattle.dma_machine.specs.Counts.{acted}
use Rattle.dma_machine.specs.FallThrough.{moved_whole, none_before, put_down}
use Rattle.dma_machine.specs.Needs.{Applied}
use Rattle.dma_machine.specs.Noted.{all_noted}
use Rattle.dma_machine.specs.WholeTakes.{takes_whole}
use Rattle.dma_machine.proofs.FallThrough.{asks_some, lowest, not_done}
use Rattle.dma_machine.proofs.Noting.{all_noted-seen_burst, noted-applied, whole_noted}
use Rattle.dma_machine.proofs.Storing.{all_stored}
use Rattle.dma_machine.proofs.WholeTakes.{IsWhole, plain_whole}

-- ---- what is asked of a queue, and what is left of it

pub asked_now : (q : Queue) (d : Demand) (ds : Demands) → demand_on q (with_demand q d ds) ≡ d
asked_now One d ds = refl
asked_now Two d ds = refl
asked_now Three d ds = refl

asked_last : (q : Queue) (early late : Demand) (ds : Demands) → with_demand q late (with_demand q early ds) ≡ with_demand q late ds
asked_last One early late ds = refl
asked_last Two early late ds = refl
asked_last Three early late ds = refl

address_less : (a b : ℕ) (address : Option ℕ) →
    option_map (λ at. at + b) (option_map (λ at. at + a) address) ≡ option_map (λ at. at + (a + b)) address
address_less a b None = refl
address_less a b (Some address) = let e : address + a + b ≡ address + (a + b) = omega arith in ap Some e

less_less : (a b : ℕ) (d : Demand) → demand_less b (demand_less a d) ≡ demand_less (a + b) d
less_less a b d =
    let rest : d.rest - a - b ≡ d.rest - (a + b) = omega arith in
    ap (λ n. record { rest = n; address = option_map (λ at. at + b) (option_map (λ at. at + a) d.address); needs_sol = false }) rest
    ∙ ap (λ at. record { rest = d.rest - (a + b); address = at; needs_sol = false }) (address_less a b d.address)

-- after two takes
asked_after : (q : Queue) (a b : ℕ) (ds : Demands) →
    with_demand q (demand_less b (demand_on q (with_demand q (demand_less a (demand_on q ds)) ds)))
    (with_demand q (demand_less a (demand_on q ds)) ds)
    ≡ with_demand q (demand_less (a + b) (demand_on q ds)) ds
asked_after q a b ds =
    ap (λ d. with_demand q (demand_less b d) (with_demand q (demand_less a (demand_on q ds)) ds))
    (asked_now q (demand_less a (demand_on q ds)) ds)
    ∙ asked_last q (demand_less a (demand_on q ds)) (demand_less b (demand_less a (demand_on q ds))) ds
    ∙ ap (λ d. with_demand q d ds) (less_less a b (demand_on q ds))

-- ---- bytes that are stored one behind the other

-- those of all lanes
abbrev pub put_at : List Block → Option ℕ → List ℕ → List Block
put_at memory None bytes = memory
put_at memory (Some address) bytes = stored_run memory address bytes

abbrev pub count_at : Option ℕ → List ℕ → ℕ
count_at None bytes = 0
count_at (Some address) bytes = length bytes

pub put_all : (memory : List Block) (off : ℕ) (address : Option ℕ) (bytes : List ℕ) → off ≡ 0 →
    stored_all memory (stores_at address off 0 bytes) ≡ put_at memory address bytes
put_all memory off None bytes e = refl
put_all memory off (Some address) bytes e =
    ap (λ n. stored_all memory (stores_at (Some address) n 0 bytes)) e ∙ (all_stored memory 0 address bytes).stores

pub count_all : (memory : List Block) (off : ℕ) (address : Option ℕ) (bytes : List ℕ) → off ≡ 0 →
    length (stores_at address off 0 bytes) ≡ count_at address bytes
count_all memory off None bytes e = refl
count_all memory off (Some address) bytes e =
    ap (λ n. length (stores_at (Some address) n 0 bytes)) e ∙ (all_stored memory 0 address bytes).many

run_behind : (memory : List Block) (address : ℕ) (first later : List ℕ) →
    stored_run (stored_run memory address first) (address + length first) later ≡ stored_run memory address (first ++ later)
run_behind memory address [] later = let e : address + 0 ≡ address = omega arith in ap (λ at. stored_run memory at later) e
run_behind memory address (byte ∷ first) later =
    let e : address + suc (length first) ≡ address + 1 + length first = omega arith in
    ap (λ at. stored_run (stored_run (stored memory address byte) (address + 1) first) at later) e
    ∙ run_behind (stored memory address byte) (address + 1) first later

put_next : (memory : List Block) (address : Option ℕ) (first later : List ℕ) →
    put_at (put_at memory address first) (option_map (λ at. at + length first) address) later ≡ put_at memory address (first ++ later)
put_next memory None first later = refl
put_next memory (Some address) first later = run_behind memory address first later

count_next : (moved : ℕ) (address : Option ℕ) (first later : List ℕ) →
    more (more moved (count_at address first)) (count_at (option_map (λ at. at + length first) address) later)
    ≡ more moved (count_at address (first ++ later))
count_next moved None first later = omega arith
count_next moved (Some address) first later = let all = length-append first later in omega (arith, all)

module _ (q : Queue) (instr : Instr) (ds : Demands) (m : State) (off : instr_off instr ≡ 0) where
  abbrev made : Demands → List Block → ℕ → State
  made left memory moved = record m { job = Running instr left; memory = memory; moved = moved }

  -- bytes of a queue, and others behind them
  pub put_both : (first later : List ℕ) (early late : ℕ) → early ≡ length first →
      put_down q late instr (with_demand q (demand_less early (demand_on q ds)) ds) 0 later (put_down q early instr ds 0 first m)
      ≡ put_down q (early + late) instr ds 0 (first ++ later) m
  put_both first later early late is =
      let address : Option ℕ = (demand_on q ds).address in
      let less : Demands = with_demand q (demand_less early (demand_on q ds)) ds in
      let before : List Store = stores_at address (instr_off instr) 0 first in
      let next : List Store = stores_at (demand_on q less).address (instr_off instr) 0 later in
      let whole : List Store = stores_at address (instr_off instr) 0 (first ++ later) in
      let now : (demand_on q less).address ≡ option_map (λ at. at + length first) address =
      ap (λ (d : Demand). d.address) (asked_now q (demand_less early (demand_on q ds)) ds)
      ∙ ap (λ n. option_map (λ at. at + n) address) is in
      let memory : stored_all (stored_all m.memory before) next ≡ stored_all m.memory whole =
      put_all (stored_all m.memory before) (instr_off instr) (demand_on q less).address later off
      ∙ ap (λ at. put_at (stored_all m.memory before) at later) now
      ∙ ap (λ blocks. put_at blocks (option_map (λ at. at + length first) address) later)
      (put_all m.memory (instr_off instr) address first off)
      ∙ put_next m.memory address first later
      ∙ sym (put_all m.memory (instr_off instr) address (first ++ later) off) in
      let moved : more (more m.moved (length before)) (length next) ≡ more m.moved (length whole) =
      ap (λ n. more (more m.moved (length before)) n)
      (count_all m.memory (instr_off instr) (demand_on q less).address later off ∙ ap (λ at. count_at at later) now)
      ∙ ap (λ n. more (more m.moved n) (count_at (option_map (λ at. at + length first) address) later))
      (count_all m.memory (instr_off instr) address first off)
      ∙ count_next m.moved address first later
      ∙ ap (more m.moved) (sym (count_all m.memory (instr_off instr) address (first ++ later) off)) in
      ap (λ left. made left (stored_all (stored_all m.memory before) next) (more (more m.moved (length before)) (length next)))
      (asked_after q early late ds)
      ∙ ap (λ blocks. made (with_demand q (demand_less (early + late) (demand_on q ds)) ds) blocks
      (more (more m.moved (length before)) (length next))) memory
      ∙ ap (λ n. made (with_demand q (demand_less (early + late) (demand_on q ds)) ds) (stored_all m.memory whole) n) moved

-- ---- a queue that holds plain entries

abbrev pub entries_of : List (ℕ × ℕ) → List Entry
entries_of [] = []
entries_of (entry ∷ entries) = plain_entry entry.0 ∷ entries_of entries

-- these entries, and nothing is taken of the first
abbrev pub with_entries : List Entry → QueueState → QueueState
with_entries entries held = record held { entries = entries; taken = 0 }

abbrev pub holding : Queue → List (ℕ × ℕ) → State → State
holding q entries m = record m { queues = with_queue_state q (with_entries (entries_of entries) (queue_state q m.queues)) m.queues }

pub is_held : (q : Queue) (entries : List (ℕ × ℕ)) (m : State) →
    queue_state q (holding q entries m).queues ≡ with_entries (entries_of entries) (queue_state q m.queues)
is_held q entries m = queue_state-with_queue_state q (with_entries (entries_of entries) (queue_state q m.queues)) m.queues

pub length_entries : (entries : List (ℕ × ℕ)) → length (entries_of entries) ≡ length entries
length_entries [] = refl
length_entries (entry ∷ entries) = ap suc (length_entries entries)

pub takes_four : (sol : Bool) (rest : ℕ) → sol ≡ false → 4 ≤ rest → takes_whole (kind_of 0) sol 0 rest ≡ true
takes_four true rest e le = cc
takes_four false rest e le = grind (arith, le)

-- ---- the front is taken whole

module _ (q : Queue) (entry : ℕ × ℕ) (behind : List (ℕ × ℕ)) (m : State) (instr : Instr) (ds : Demands) (running : m.job ≡ Running instr ds)
    (sol : (demand_on q ds).needs_sol ≡ false) (asked : 4 ≤ (demand_on q ds).rest) where
  abbrev now : State
  now = holding q (entry ∷ behind) m

  abbrev rest : ℕ
  rest = (demand_on q ds).rest

  takes : takes_whole (kind_of 0) (demand_on q ds).needs_sol 0 rest ≡ true
  takes = takes_four _ _ sol asked

  whole : IsWhole (kind_of 0) (demand_on q ds).needs_sol 0 rest
  whole = plain_whole _ _ _ _ takes

  verdict : verdict_on (kind_of 0) (demand_on q ds).needs_sol (queue_state q now.queues).taken rest ≡ Take 4
  verdict =
      ap (λ (at : QueueState). verdict_on (kind_of 0) (demand_on q ds).needs_sol at.taken rest) (is_held q (entry ∷ behind) m)
      ∙ whole.verdict

  applied : apply q now ≡ Some (took q 4 instr ds (plain_entry entry.0) now)
  applied =
      ap (λ job. apply_in job q now) running
      ∙ ap (λ at. served at q instr ds now) (ap front (is_held q (entry ∷ behind) m))
      ∙ ap (λ none. if none then None else Some (judged (verdict_at q ds (plain_entry entry.0) now) q instr ds (plain_entry entry.0) now))
      (asks_some rest asked)
      ∙ ap (λ v. Some (judged v q instr ds (plain_entry entry.0) now)) verdict
      ∙ ap (λ end. Some (ended (end && ((queue_state q now.queues).taken + 4 == valid_bytes 0) && not (rest == 4)) instr
      (took q 4 instr ds (plain_entry entry.0) now))) whole.no_end

  back : took q 4 instr ds (plain_entry entry.0) now ≡ holding q behind (put_down q 4 instr ds 0 (lane_bytes entry.0) m)
  back =
      ap (λ (at : QueueState). stored_as at.taken (with_queue_state q (taken_from 4 at) now.queues)) (is_held q (entry ∷ behind) m)
      ∙ ap (stored_as 0)
      (with_queue_state-twice q (with_entries (entries_of (entry ∷ behind)) (queue_state q m.queues))
      (with_entries (entries_of behind) (queue_state q m.queues)) m.queues)
    where
      stored_as : ℕ → Queues → State
      stored_as taken queues =
          let d : Demand = demand_on q ds in
          let stores : List Store = stores_of instr d (plain_entry entry.0) taken 4 in
          record m {
            job = Running instr (with_demand q (demand_less 4 d) ds);
            queues = queues;
            memory = stored_all m.memory stores;
            moved = more m.moved (length stores);
          }

  abbrev after : State
  after = holding q behind (put_down q 4 instr ds 0 (lane_bytes entry.0) m)

  pub one_applied : apply q now ≡ Some after
  one_applied = applied ∙ ap Some back

  -- what is noted of it
  abbrev whole_take : Application
  whole_take = record { entry = plain_entry entry.0; taken = (queue_state q now.queues).taken; demand = demand_on q ds }

  one_application : application q now ≡ whole_take ∷ []
  one_application =
      ap (λ job. application_in job q now) running
      ∙ ap (λ at. served_application at q ds now) (ap front (is_held q (entry ∷ behind) m))
      ∙ ap (λ none. if none then [] else whole_take ∷ []) (asks_some rest asked)

  takes_it : takes_whole (kind_of 0) (demand_on q ds).needs_sol whole_take.taken rest ≡ true
  takes_it = ap (λ (at : QueueState). takes_whole (kind_of 0) (demand_on q ds).needs_sol at.taken rest) (is_held q (entry ∷ behind) m)
      ∙ takes

  pub one_noted : (s : Seen) → all_noted q (application q now) s ≡ record s { took = true }
  one_noted s = ap (λ made. all_noted q made s) one_application ∙ sym (whole_noted q whole_take s takes_it)

-- ---- and so are those behind it

rest_less : (q : Queue) (ds : Demands) → (demand_on q (with_demand q (demand_less 4 (demand_on q ds)) ds)).rest ≡ (demand_on q ds).rest - 4
rest_less q ds = ap (λ (d : Demand). d.rest) (asked_now q (demand_less 4 (demand_on q ds)) ds)

sol_less : (q : Queue) (ds : Demands) → (demand_on q (with_demand q (demand_less 4 (demand_on q ds)) ds)).needs_sol ≡ false
sol_less q ds = ap (λ (d : Demand). d.needs_sol) (asked_now q (demand_less 4 (demand_on q ds)) ds)

bursts : (q : Queue) (entry : ℕ × ℕ) (entries : List (ℕ × ℕ)) (m : State) (instr : Instr) (ds : Demands) → m.job ≡ Running instr ds →
    (demand_on q ds).needs_sol ≡ false → instr_off instr ≡ 0 → length (entry ∷ entries) * 4 ≤ (demand_on q ds).rest →
    burst (length (entry ∷ entries)) q (holding q (entry ∷ entries) m)
    ≡ holding q [] (put_down q (length (entry ∷ entries) * 4) instr ds 0 (dwords_of (entry ∷ entries)) m)
bursts q entry [] m instr ds running sol off asked =
    ap (λ next. elim next as (λ _. State) [ None ↦ holding q (entry ∷ []) m | Some state ↦ state ])
    (one_applied q entry [] m instr ds running sol (omega (arith, asked)))
bursts q entry (next ∷ entries) m instr ds running sol off asked =
    let less : Demands = with_demand q (demand_less 4 (demand_on q ds)) ds in
    let left = rest_less q ds in
    let count : ℕ = length (next ∷ entries) in
    let all : 4 + count * 4 ≡ suc count * 4 = omega arith in
    ap (λ state. elim state as (λ _. State) [ None ↦ holding q (entry ∷ next ∷ entries) m | Some after ↦ burst count q after ])
    (one_applied q entry (next ∷ entries) m instr ds running sol (omega (arith, asked)))
    ∙ bursts q next entries (put_down q 4 instr ds 0 (lane_bytes entry.0) m) instr less refl (sol_less q ds) off
    (omega (arith, left, asked))
    ∙ ap (holding q []) (put_both q instr ds m off (lane_bytes entry.0) (dwords_of (next ∷ entries)) 4 (count * 4) refl)
    ∙ ap (λ n. holding q [] (put_down q n instr ds 0 (dwords_of (entry ∷ next ∷ entries)) m)) all

-- the first is noted, and then the others
first_noted : (q : Queue) (entry : ℕ × ℕ) (entries : List (ℕ × ℕ)) (m : State) (instr : Instr) (ds : Demands) (s : Seen) →
    m.job ≡ Running instr ds → (demand_on q ds).needs_sol ≡ false → 4 ≤ (demand_on q ds).rest →
    all_noted q (applications (suc (length entries)) q (holding q (entry ∷ entries) m)) s
    ≡ all_noted q (applications (length entries) q (holding q entries (put_down q 4 instr ds 0 (lane_bytes entry.0) m)))
    (record s { took = true })
first_noted q entry entries m instr ds s running sol four =
    let before : State = holding q (entry ∷ entries) m in
    let after : State = holding q entries (put_down q 4 instr ds 0 (lane_bytes entry.0) m) in
    let is = one_applied q entry entries m instr ds running sol four in
    let some : 0 < suc (length entries) = omega arith in
    let one : suc (length entries) - 1 ≡ length entries = omega arith in
    noted-applied (suc (length entries)) q true after before s some
    (subst (λ wanted. Applied wanted true after before) (sym is) (refl, refl))
    ∙ ap (λ noted_one. all_noted q (applications (suc (length entries) - 1) q after) noted_one)
    (one_noted q entry entries m instr ds running sol four s)
    ∙ ap (λ n. all_noted q (applications n q after) (record s { took = true })) one

all_noted_whole : (q : Queue) (entry : ℕ × ℕ) (entries : List (ℕ × ℕ)) (m : State) (instr : Instr) (ds : Demands) (s : Seen) →
    m.job ≡ Running instr ds → (demand_on q ds).needs_sol ≡ false → length (entry ∷ entries) * 4 ≤ (demand_on q ds).rest →
    all_noted q (applications (length (entry ∷ entries)) q (holding q (entry ∷ entries) m)) s ≡ record s { took = true }
all_noted_whole q entry [] m instr ds s running sol asked = first_noted q entry [] m instr ds s running sol (omega (arith, asked))
all_noted_whole q entry (next ∷ entries) m instr ds s running sol asked =
    let less : Demands = with_demand q (demand_less 4 (demand_on q ds)) ds in
    let left = rest_less q ds in
    first_noted q entry (next ∷ entries) m instr ds s running sol (omega (arith, asked))
    ∙ all_noted_whole q next entries (put_down q 4 instr ds 0 (lane_bytes entry.0) m) instr less (record s { took = true }) refl
    (sol_less q ds) (omega (arith, left, asked))

-- ---- the turn at a queue that holds as many of them as make it ready

module _ (q : Queue) (entry : ℕ × ℕ) (entries : List (ℕ × ℕ)) (m : State) (instr : Instr) (ds : Demands) (runs : m.risc_on ≡ true)
    (running : m.job ≡ Running instr ds) (sol : (demand_on q ds).needs_sol ≡ false)
    (many : length (entry ∷ entries) ≡ m.trigger) (asked : length (entry ∷ entries) * 4 ≤ (demand_on q ds).rest)
    (before : none_before q ds m ≡ true) where
  abbrev full : State
  full = holding q (entry ∷ entries) m

  asks : ((demand_on q ds).rest == 0) ≡ false
  asks = asks_some (demand_on q ds).rest (omega (arith, asked))

  enough : nat_le m.trigger (length (entries_of (entry ∷ entries))) ≡ true
  enough = let same = length_entries (entry ∷ entries) in let le : m.trigger ≤ length (entries_of (entry ∷ entries)) =
      omega (arith, same, many) in grind (arith, le)

  ready : is_served q ds full ≡ true
  ready =
      ap (λ none. not none && is_ready m.trigger (queue_state q full.queues)) asks
      ∙ ap (is_ready m.trigger) (is_held q (entry ∷ entries) m)
      ∙ ap (λ some. some || list_any (λ (e : Entry). wakes (kind_of e.status)) (entries_of (entry ∷ entries))) enough

  lowest_is : lowest_served ds full ≡ Some q
  lowest_is = lowest q ds m (with_entries (entries_of (entry ∷ entries)) (queue_state q m.queues)) before ready

  pub burst_acted : instr_off instr ≡ 0 →
      acted full ≡ holding q [] (put_down q (length (entry ∷ entries) * 4) instr ds 0 (dwords_of (entry ∷ entries)) m)
  burst_acted off =
      ap (λ is_on. turn_if is_on full) runs
      ∙ ap (λ job. worked job full) running
      ∙ ap (λ done. ran done instr ds full) (not_done q ds asks)
      ∙ ap (λ at. burst_of at full) lowest_is
      ∙ ap (λ count. burst count q full) (sym many)
      ∙ bursts q entry entries m instr ds running sol off asked

  abbrev at : ℕ
  at = address_before full.pc instr

  pub burst_seen : seen full ≡ moved_whole q at
  burst_seen =
      ap (λ is_on. seen_if is_on full) runs
      ∙ ap (λ job. seen_in job full) running
      ∙ ap (λ done. seen_running done at ds full) (not_done q ds asks)
      ∙ ap (λ served. seen_served served at full) lowest_is
      ∙ ap (λ count. seen_burst q at (applications count q full)) (sym many)
      ∙ sym (all_noted-seen_burst q at (applications (length (entry ∷ entries)) q full))
      ∙ all_noted_whole q entry entries m instr ds (seen_alone (Moved q) at) running sol asked
