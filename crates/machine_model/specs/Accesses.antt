-- What a turn writes and fetches, and what it reads of its program.
use Rattle.std.specs.Prelude.{◌≡◌, ℕ, zero, suc, ◌+◌, max, Bool, true, false, All, List, [], ◌∷◌, ◌++◌, map, Option, Some, None}
use Rattle.std.specs.Prelude.{if◌then◌else◌, ◌==◌}
use Rattle.bit_field.specs.Bits.{bits}
use Rattle.risc_word.specs.declared.Instr.{Instr}
use Rattle.risc_word.specs.Words.{opcode_length}
use Rattle.sync_status.specs.declared.Verdict.{Verdict}
use Rattle.sync_status.specs.declared.Verdict.TheVariants.{Take, Discard, Broken, Missing}
use Rattle.fifo_model.specs.declared.Entry.{Entry}
use Rattle.fifo_model.specs.declared.Queue.{Queue}
use Rattle.fifo_model.specs.Queues.{queue_state, front}
use Rattle.machine_model.specs.declared.Demands.{Demands}
use Rattle.machine_model.specs.declared.Job.{Job}
use Rattle.machine_model.specs.declared.Job.TheVariants.{Idle, Waiting, Running}
use Rattle.machine_model.specs.Paths.{RiscProgram, is_word, word_at, fetch}
use Rattle.machine_model.specs.States.{State}
use Rattle.machine_model.specs.Turns.{Store, stores_of, demand_on, verdict_at, apply, lowest_served, is_done, counted}

-- the stores of one application to the front of a queue
abbrev pub judged_stores : Verdict → Queue → Instr → Demands → Entry → State → List Store
judged_stores Broken q instr ds entry m = []
judged_stores Discard q instr ds entry m = []
judged_stores Missing q instr ds entry m = []
judged_stores (Take count) q instr ds entry m =
    stores_of instr (demand_on q ds) entry (queue_state q m.queues).taken count

abbrev pub served_stores : Option Entry → Queue → Instr → Demands → State → List Store
served_stores None q instr ds m = []
served_stores (Some entry) q instr ds m =
    if (demand_on q ds).rest == 0 then [] else judged_stores (verdict_at q ds entry m) q instr ds entry m

abbrev pub stores_in : Job → Queue → State → List Store
stores_in (Running instr ds) q m = served_stores (front (queue_state q m.queues)) q instr ds m
stores_in _ q m = []

abbrev pub apply_stores : Queue → State → List Store
apply_stores q m = stores_in m.job q m

-- the stores of a burst
abbrev pub burst_stores : ℕ → Queue → State → List Store
burst_stores zero q m = []
burst_stores (suc count) q m =
    apply_stores q m ++ (elim (apply q m) [ None ↦ [] | Some after ↦ burst_stores count q after ])

abbrev pub burst_stores_of : Option Queue → State → List Store
burst_stores_of None m = []
burst_stores_of (Some q) m = burst_stores m.trigger q m

abbrev pub ran_stores : Bool → Demands → State → List Store
ran_stores true ds m = []
ran_stores false ds m = burst_stores_of (lowest_served ds m) m

abbrev pub worked_stores : Job → State → List Store
worked_stores Idle m = []
worked_stores (Waiting ctl resync code) m = []
worked_stores (Running instr ds) m = ran_stores (is_done ds) ds m

abbrev pub stores_if : Bool → State → List Store
stores_if false m = []
stores_if true m = worked_stores m.job m

-- the stores of the turn at a state, in their order, and the addresses that it writes
abbrev pub stores : State → List Store
stores m = stores_if m.risc_on (counted m)

abbrev pub writes : State → List ℕ
writes m = map (λ store. store.address) (stores m)

-- so many addresses of words, from one on
abbrev pub word_addresses : ℕ → ℕ → List ℕ
word_addresses address zero = []
word_addresses address (suc count) = address ∷ word_addresses (address + 4) count

-- how many words are read at an address: one, or as many as the opcode there asks for
abbrev pub words_read : RiscProgram → ℕ → ℕ
words_read program pc =
    elim (word_at program pc) [ None ↦ 1 | Some word ↦ max 1 (opcode_length (bits 28 4 word)) ]

abbrev pub fetched_by : Job → State → List ℕ
fetched_by Idle m = word_addresses m.pc (words_read m.program m.pc)
fetched_by _ m = []

abbrev pub fetches_if : Bool → State → List ℕ
fetches_if false m = []
fetches_if true m = fetched_by m.job m

-- the addresses of the words that the turn at a state reads as an instruction
abbrev pub fetches : State → List ℕ
fetches m = fetches_if m.risc_on m

-- two programs of one base, with the same grants and words at the same addresses, that have the same words at these
pub record AgreeAt (addresses : List ℕ) (first second : RiscProgram) : Type 0 where
  pub base : first.base ≡ second.base
  pub there : (address : ℕ) → is_word first address ≡ is_word second address
  pub grants : first.grants ≡ second.grants
  pub words : All (λ address. word_at first address ≡ word_at second address) addresses

-- all that a turn which fetches at pc reads of a program is the same in two: the instruction there, the grants, and
-- which addresses are those of words, since a JUMP's target must be one
pub record AreFetchedAlike (pc : ℕ) (first second : RiscProgram) : Type 0 where
  pub instruction : fetch first pc ≡ fetch second pc
  pub grants : first.grants ≡ second.grants
  pub words : (address : ℕ) → is_word first address ≡ is_word second address
