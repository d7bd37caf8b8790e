-- One turn of the DMA controller.
use Rattle.std.specs.Prelude.{ℕ, zero, suc, ◌+◌, ◌-◌, ◌*◌, Bool, true, false, not, ◌&&◌, List, [], ◌∷◌, length, Option, Some, None, Ok, Err}
use Rattle.std.specs.Prelude.{option_map, if◌then◌else◌, ◌==◌}
use Rattle.bit_field.specs.Bits.{bits}
use Rattle.risc_word.specs.declared.Code.{Code}
use Rattle.risc_word.specs.declared.Ctl.{Ctl}
use Rattle.risc_word.specs.declared.Instr.{Instr}
use Rattle.risc_word.specs.declared.Instr.TheVariants.{Jump, Sync}
use Rattle.risc_word.specs.Words.{Reading, code_number}
use Rattle.sync_status.specs.declared.Verdict.{Verdict}
use Rattle.sync_status.specs.declared.Verdict.TheVariants.{Take, Discard, Broken, Missing}
use Rattle.sync_status.specs.Statuses.{kind_of, valid_bytes, is_end, is_control, verdict_on}
use Rattle.fifo_model.specs.declared.Entry.{Entry}
use Rattle.fifo_model.specs.declared.Queue.{Queue}
use Rattle.fifo_model.specs.declared.Queue.TheVariants.{One, Two, Three}
use Rattle.fifo_model.specs.Queues.{QueueState, Queues, more, queue_state, with_queue_state, front, front_code, removed, all_removed}
use Rattle.fifo_model.specs.Queues.{taken_from, bytes_taken, is_ready}
use Rattle.irq_status.specs.Register.{has, fdsr, ocerr, raised, applied}
use Rattle.page_table.specs.Blocks.{Block, stored}
use Rattle.machine_model.specs.declared.Cause.{Cause}
use Rattle.machine_model.specs.declared.Demand.{Demand}
use Rattle.machine_model.specs.declared.Demands.{Demands}
use Rattle.machine_model.specs.declared.Job.{Job}
use Rattle.machine_model.specs.declared.Job.TheVariants.{Idle, Waiting, Running}
use Rattle.machine_model.specs.declared.Skipping.{Skipping}
use Rattle.machine_model.specs.declared.Skipping.TheVariants.{Nothing, ToEol, ToSync}
use Rattle.machine_model.specs.Paths.{is_word, fetch, demands_of, target_before, target_after, data_cause}
use Rattle.risc_word.specs.Parts.{instr_ctl, instr_ends, instr_off}
use Rattle.machine_model.specs.States.{State}

abbrev pub counted : State → State
counted m = record m { turns = more m.turns 1 }

abbrev pub with_bits_raised : ℕ → State → State
with_bits_raised bits m = record m { interrupts = raised m.interrupts bits }

abbrev pub with_fdsr : State → State
with_fdsr m = with_bits_raised fdsr m

-- FDSR is raised while waiting, unless the SYNC has RESYNC
abbrev pub with_fdsr_unless : Bool → State → State
with_fdsr_unless true m = m
with_fdsr_unless false m = with_fdsr m

abbrev pub with_control_bits : Ctl → State → State
with_control_bits ctl m = record m { interrupts = applied ctl m.interrupts }

abbrev pub with_queue : Queue → QueueState → State → State
with_queue q held m = record m { queues = with_queue_state q held m.queues }

-- no instruction can be executed: OCERR, and the controller stops
abbrev pub halted : State → State
halted m = record (with_bits_raised ocerr m) { risc_on = false }

-- an instruction is given up: no control bits, no target, FDSR
abbrev pub given_up : Skipping → State → State
given_up skipping m = with_fdsr (record m { job = Idle; target = None; skipping = skipping })

-- what is passed over after an instruction was given up within its line
abbrev pub rest_of_line : Instr → Skipping
rest_of_line instr = if (instr_ends instr).eol then Nothing else ToEol

-- Fetching. A JUMP within the program
abbrev pub jumped : Bool → Ctl → ℕ → State → State
jumped true ctl addr m = record (with_control_bits ctl m) { pc = addr; target = None }
jumped false ctl addr m = halted m

-- a SYNC of so many words begins to wait
abbrev pub synced : Ctl → Bool → Code → ℕ → State → State
synced ctl resync code count m =
    record m {
      skipping = Nothing;
      target = None;
      job = Waiting ctl resync code;
      pc = m.pc + 4 * count;
    }

-- a data instruction is passed over; its EOL ends a skip to EOL
abbrev pub skipping_after : Skipping → Bool → Skipping
skipping_after ToEol true = Nothing
skipping_after skipping eol = skipping

abbrev pub passed : Instr → ℕ → State → State
passed instr count m =
    record m { pc = m.pc + 4 * count; skipping = skipping_after m.skipping (instr_ends instr).eol }

-- a data instruction begins, unless it can't with this target
abbrev pub begun_with : Option Cause → Instr → ℕ → Option ℕ → State → State
begun_with (Some cause) instr count target m = halted (record m { target = target })
begun_with None instr count target m =
    record m {
      target = target;
      job = Running instr (demands_of instr target);
      pc = m.pc + 4 * count;
    }

abbrev pub begun : Instr → ℕ → State → State
begun instr count m =
    begun_with (data_cause m.program.grants instr (target_before instr m.target)) instr count
    (target_before instr m.target) m

abbrev pub data_fetched : Skipping → Instr → ℕ → State → State
data_fetched Nothing instr count m = begun instr count m
data_fetched _ instr count m = passed instr count m

abbrev pub instr_fetched : Instr → ℕ → State → State
instr_fetched (Jump ctl addr) count m = jumped (is_word m.program addr) ctl addr m
instr_fetched (Sync ctl resync code) count m = synced ctl resync code count m
instr_fetched instr count m = data_fetched m.skipping instr count m

abbrev pub fetched : Reading → State → State
fetched (Err fault) m = halted m
fetched (Ok (instr, count)) m = instr_fetched instr count m

-- Waiting. Whether a front entry that is no control code is in a queue, and the lowest such queue
abbrev pub no_code : Option Entry → Bool
no_code None = false
no_code (Some entry) = not (is_control (kind_of entry.status))

abbrev pub is_stray : QueueState → Bool
is_stray held = no_code (front held)

abbrev pub lowest_stray : Queues → Option Queue
lowest_stray queues =
    if is_stray queues.one then Some One
    else (if is_stray queues.two then Some Two
    else (if is_stray queues.three then Some Three
    else None))

-- the code of queue 1 where a control code is at the front of each queue
abbrev pub code_if : Option Code → Option Code → Option Code → Option Code
code_if (Some one) (Some two) (Some three) = Some one
code_if _ _ _ = None

abbrev pub common_code : Queues → Option Code
common_code queues = code_if (front_code queues.one) (front_code queues.two) (front_code queues.three)

abbrev pub dropped : Queue → Bool → State → State
dropped q resync m = with_fdsr_unless resync (with_queue q (removed (queue_state q m.queues)) m)

abbrev pub without_codes : State → State
without_codes m = record m { queues = all_removed m.queues }

abbrev pub met : Bool → Ctl → Bool → State → State
met true ctl resync m = record (with_control_bits ctl (without_codes m)) { job = Idle }
met false ctl resync m = with_fdsr_unless resync (without_codes m)

abbrev pub code_seen : Option Code → Ctl → Bool → Code → State → State
code_seen None ctl resync code m = m
code_seen (Some seen) ctl resync code m = met (code_number seen == code_number code) ctl resync m

abbrev pub stray_seen : Option Queue → Ctl → Bool → Code → State → State
stray_seen (Some q) ctl resync code m = dropped q resync m
stray_seen None ctl resync code m = code_seen (common_code m.queues) ctl resync code m

abbrev pub waited : Ctl → Bool → Code → State → State
waited ctl resync code m = stray_seen (lowest_stray m.queues) ctl resync code m

-- Running. The demand on a queue
abbrev pub demand_on : Queue → Demands → Demand
demand_on One ds = ds.one
demand_on Two ds = ds.two
demand_on Three ds = ds.three

abbrev pub with_demand : Queue → Demand → Demands → Demands
with_demand One d ds = record ds { one = d }
with_demand Two d ds = record ds { two = d }
with_demand Three d ds = record ds { three = d }

-- a byte stored at an address
pub record Store : Type 0 where
  pub address : ℕ
  pub byte : ℕ

abbrev pub is_off : ℕ → ℕ → Bool
is_off off lane = bits lane 1 off == 1

-- the stores of bytes that lie in the lanes from `lane` on; a byte whose lane is off isn't stored
abbrev pub stores_from : ℕ → ℕ → ℕ → List ℕ → List Store
stores_from off lane address [] = []
stores_from off lane address (byte ∷ bytes) =
    if is_off off lane then stores_from off (lane + 1) (address + 1) bytes
    else record { address = address; byte = byte } ∷ stores_from off (lane + 1) (address + 1) bytes

abbrev pub stores_at : Option ℕ → ℕ → ℕ → List ℕ → List Store
stores_at None off lane bytes = []
stores_at (Some address) off lane bytes = stores_from off lane address bytes

-- the stores of taking `count` bytes of a front of which `taken` were taken before
abbrev pub stores_of : Instr → Demand → Entry → ℕ → ℕ → List Store
stores_of instr d entry taken count =
    stores_at d.address (instr_off instr) taken (bytes_taken entry taken count)

abbrev pub stored_all : List Block → List Store → List Block
stored_all memory [] = memory
stored_all memory (store ∷ stores) = stored_all (stored memory store.address store.byte) stores

abbrev pub demand_less : ℕ → Demand → Demand
demand_less count d =
    record {
      rest = d.rest - count;
      address = option_map (λ at. at + count) d.address;
      needs_sol = false;
    }

-- a line that ends before the instruction has what it asks for
abbrev pub is_cut_short : Entry → ℕ → ℕ → ℕ → Bool
is_cut_short entry taken count rest =
    is_end (kind_of entry.status) && taken + count == valid_bytes entry.status && not (rest == count)

abbrev pub took : Queue → ℕ → Instr → Demands → Entry → State → State
took q count instr ds entry m =
    let held : QueueState = queue_state q m.queues in
    let d : Demand = demand_on q ds in
    let stores : List Store = stores_of instr d entry held.taken count in
    record m {
      job = Running instr (with_demand q (demand_less count d) ds);
      queues = with_queue_state q (taken_from count held) m.queues;
      memory = stored_all m.memory stores;
      moved = more m.moved (length stores);
    }

abbrev pub ended : Bool → Instr → State → State
ended true instr m = given_up (rest_of_line instr) m
ended false instr m = m

abbrev pub taking : Queue → ℕ → Instr → Demands → Entry → State → State
taking q count instr ds entry m =
    ended (is_cut_short entry (queue_state q m.queues).taken count (demand_on q ds).rest) instr
    (took q count instr ds entry m)

abbrev pub judged : Verdict → Queue → Instr → Demands → Entry → State → State
judged Broken q instr ds entry m = given_up ToSync m
judged Discard q instr ds entry m = with_fdsr (with_queue q (removed (queue_state q m.queues)) m)
judged Missing q instr ds entry m = given_up (rest_of_line instr) m
judged (Take count) q instr ds entry m = taking q count instr ds entry m

abbrev pub verdict_at : Queue → Demands → Entry → State → Verdict
verdict_at q ds entry m =
    verdict_on (kind_of entry.status) (demand_on q ds).needs_sol (queue_state q m.queues).taken (demand_on q ds).rest

-- one application to the front of a queue; none where nothing is asked of it or it is empty
abbrev pub served : Option Entry → Queue → Instr → Demands → State → Option State
served None q instr ds m = None
served (Some entry) q instr ds m =
    if (demand_on q ds).rest == 0 then None
    else Some (judged (verdict_at q ds entry m) q instr ds entry m)

abbrev pub apply_in : Job → Queue → State → Option State
apply_in (Running instr ds) q m = served (front (queue_state q m.queues)) q instr ds m
apply_in _ q m = None

abbrev pub apply : Queue → State → Option State
apply q m = apply_in m.job q m

-- a burst: as many applications to one queue as there can be, and no more than `count`
abbrev pub burst : ℕ → Queue → State → State
burst zero q m = m
burst (suc count) q m = elim (apply q m) [ None ↦ m | Some after ↦ burst count q after ]

-- whether something is asked of a queue and it is ready, and the lowest such queue
abbrev pub is_served : Queue → Demands → State → Bool
is_served q ds m = not ((demand_on q ds).rest == 0) && is_ready m.trigger (queue_state q m.queues)

abbrev pub lowest_served : Demands → State → Option Queue
lowest_served ds m =
    if is_served One ds m then Some One
    else (if is_served Two ds m then Some Two
    else (if is_served Three ds m then Some Three
    else None))

abbrev pub burst_of : Option Queue → State → State
burst_of None m = m
burst_of (Some q) m = burst m.trigger q m

-- the instruction has all that it asked for
abbrev pub retired : Instr → State → State
retired instr m =
    record (with_control_bits (instr_ctl instr) m) { job = Idle; target = target_after instr m.target }

abbrev pub is_done : Demands → Bool
is_done ds = ds.one.rest == 0 && ds.two.rest == 0 && ds.three.rest == 0

abbrev pub ran : Bool → Instr → Demands → State → State
ran true instr ds m = retired instr m
ran false instr ds m = burst_of (lowest_served ds m) m

-- one turn
abbrev pub worked : Job → State → State
worked Idle m = fetched (fetch m.program m.pc) m
worked (Waiting ctl resync code) m = waited ctl resync code m
worked (Running instr ds) m = ran (is_done ds) instr ds m

abbrev pub turn_if : Bool → State → State
turn_if false m = m
turn_if true m = worked m.job m

abbrev pub turn : State → State
turn m = turn_if m.risc_on (counted m)

-- The turn at a state sets FDSR where the same turn leaves it set though no bit of INT_STAT was set before. What a turn
-- does never depends on these bits (law `interrupts_change_no_turn`)
abbrev pub with_interrupts : ℕ → State → State
with_interrupts register m = record m { interrupts = register }

abbrev pub sets_fdsr : State → Bool
sets_fdsr m = has fdsr (turn (with_interrupts 0 m)).interrupts
