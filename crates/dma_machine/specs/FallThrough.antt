-- An entry that falls through an empty queue: the turn behind its push takes it whole.
use Rattle.std.specs.Prelude.{◌≡◌, ◌<◌, ℕ, Bool, true, false, not, ◌&&◌, ◌==◌, is_none, List, length}
use Rattle.risc_word.specs.declared.Instr.{Instr}
use Rattle.risc_word.specs.Parts.{instr_off}
use Rattle.sync_status.specs.declared.StatusKind.TheVariants.{Pixels}
use Rattle.sync_status.specs.Statuses.{kind_of}
use Rattle.fifo_model.specs.declared.Entry.{Entry}
use Rattle.fifo_model.specs.declared.Queue.{Queue}
use Rattle.fifo_model.specs.declared.Queue.TheVariants.{One, Two, Three}
use Rattle.fifo_model.specs.Queues.{front, lane_bytes, more, queue_state}
use Rattle.machine_model.specs.declared.Demand.{Demand}
use Rattle.machine_model.specs.declared.Demands.{Demands}
use Rattle.machine_model.specs.declared.Did.TheVariants.{Moved}
use Rattle.machine_model.specs.declared.Job.{Job}
use Rattle.machine_model.specs.declared.Job.TheVariants.{Running}
use Rattle.machine_model.specs.declared.Seen.{Seen}
use Rattle.machine_model.specs.States.{State}
use Rattle.machine_model.specs.Turns.{Store, demand_less, demand_on, is_served, stored_all, stores_at, with_demand}
use Rattle.dma_machine.specs.declared.engine.Standing.{Standing}
use Rattle.dma_machine.specs.declared.engine.Standing.TheVariants.{Open}
use Rattle.dma_machine.specs.WholeTakes.{takes_whole}

-- no queue before this one is served
abbrev pub none_before : Queue → Demands → State → Bool
none_before One ds m = true
none_before Two ds m = not (is_served One ds m)
none_before Three ds m = not (is_served One ds m) && not (is_served Two ds m)

-- one entry makes the queue ready, it is empty, and the running instruction takes an entry of this status whole
abbrev pub falls_in : Job → Queue → ℕ → State → Bool
falls_in (Running instr ds) q status m =
    (m.trigger == 1) && (is_none (front (queue_state q m.queues))
    && (takes_whole (kind_of status) (demand_on q ds).needs_sol 0 (demand_on q ds).rest && none_before q ds m))
falls_in _ q status m = false

abbrev pub falls_through : Queue → ℕ → State → Bool
falls_through q status m = m.fifo_on && (m.risc_on && falls_in m.job q status m)

-- what is asked of an entry, with so many turns behind it, that falls through an open machine and leaves it open
pub record FallsOpen (q : Queue) (status count : ℕ) (noted : Standing) (ds : Demands) : Type 0 where
  pub some : 0 < count
  pub stands : noted ≡ Open
  pub plain : kind_of status ≡ Pixels
  pub more : 4 < (demand_on q ds).rest

-- bytes that lie in the lanes from `lane` on are stored, and no longer asked for
abbrev pub put_down : Queue → ℕ → Instr → Demands → ℕ → List ℕ → State → State
put_down q count instr ds lane bytes m =
    let d : Demand = demand_on q ds in
    let stores : List Store = stores_at d.address (instr_off instr) lane bytes in
    record m {
      job = Running instr (with_demand q (demand_less count d) ds);
      memory = stored_all m.memory stores;
      moved = more m.moved (length stores);
    }

-- its four bytes are stored, and the queues are as they were
abbrev pub fallen_through : Queue → Instr → Demands → Entry → State → State
fallen_through q instr ds entry m = put_down q 4 instr ds 0 (lane_bytes entry.dword) m

-- what is seen of that turn: bytes of the queue are taken, the line goes on, and nothing is given up or discarded
abbrev pub moved_whole : Queue → ℕ → Seen
moved_whole q at = record { did = Moved q; at = at; took = true; ended = false; reserved = false }

abbrev pub MovesWhole : Queue → Seen → Type 0
MovesWhole q s = s ≡ moved_whole q s.at
