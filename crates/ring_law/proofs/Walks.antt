-- Instructions of a ring as the machine goes through them, the JUMPs among them, with the blocks that are still to end.
use Rattle.std.proofs.Common.{Bool, List, None, Ok, Option, Some, [], ap, drop, length, refl, ℕ, ◌*◌, ◌++◌, ◌+◌, ◌-◌, ◌<◌, ◌==◌, ◌∷◌, ◌≡◌}
use Rattle.std.proofs.Common.{false, true}
use Rattle.std.proofs.lemmas.Bool.{cond-false, cond-true}
use Rattle.ring_model.specs.Runs.{BlockAt, ended_by}
use Rattle.risc_word.specs.declared.Code.{Code}
use Rattle.risc_word.specs.declared.Ctl.{Ctl}
use Rattle.machine_model.specs.declared.Demands.{Demands}
use Rattle.machine_model.specs.declared.Job.TheVariants.{Idle, Running, Waiting}
use Rattle.risc_word.specs.declared.Instr.{Instr}
use Rattle.machine_model.specs.declared.Job.{Job}
use Rattle.risc_word.specs.declared.Instr.TheVariants.{Jump, Skip, Skip123, Sync, Write, Write123, Write1S23, WriteC}
use Rattle.fifo_model.specs.declared.Queue.{Queue}
use Rattle.machine_model.specs.Paths.{RiscProgram, demands_cause, demands_of, fetch, is_word}
use Rattle.risc_word.specs.Parts.{instr_ctl}
use Rattle.machine_model.specs.States.{State}
use Rattle.risc_word.specs.Words.{code_number, encoded}
use Rattle.machine_model.specs.Turns.{code_seen, common_code, is_done, lowest_stray, met, stray_seen, waited, with_fdsr_unless, with_queue}
use Rattle.machine_model.specs.Turns.{without_codes}
use Rattle.ring_model.specs.Rings.{mark}
use Rattle.fifo_model.specs.Queues.{queue_state, removed}

-- where the machine goes after an instruction
abbrev pub next_at : Instr → ℕ → ℕ
next_at (Jump ctl target) pc = target
next_at instr pc = pc + 4 * length (encoded instr)

-- a WRITE to granted bytes, or a JUMP to a word
abbrev pub IsOfRing : RiscProgram → Instr → Type 0
IsOfRing program (Write ctl ends off count address) =
    (off ≡ 0) × (demands_cause program.grants (demands_of (Write ctl ends off count address) None) ≡ None)
IsOfRing program (Jump ctl target) = is_word program target ≡ true
IsOfRing program _ = ⊥

abbrev pub end_list : Option ℕ → List ℕ
end_list (Some block) = block ∷ []
end_list None = []

-- the block that an instruction ends at an address
abbrev pub ends_at : BlockAt → Instr → ℕ → List ℕ
ends_at block_at (Write ctl ends off count address) at = end_list (block_at at)
ends_at block_at _ at = []

-- what ends a block signals it
abbrev pub IsMarked : BlockAt → Instr → ℕ → Type 0
IsMarked block_at instr at = (block : ℕ) → ends_at block_at instr at ≡ block ∷ [] → instr_ctl instr ≡ mark block

-- the instructions are one after another from an address on; the last of them ends the last block that is left
abbrev pub Walks : RiscProgram → BlockAt → ℕ → List Instr → List ℕ → Type 0
Walks program block_at pc [] left = left ≡ []
Walks program block_at pc (instr ∷ rest) left =
    (later : List ℕ) × (left ≡ ends_at block_at instr pc ++ later) × (0 < length left)
    × (fetch program pc ≡ Ok (instr, length (encoded instr)))
    × IsOfRing program instr × IsMarked block_at instr pc × Walks program block_at (next_at instr pc) rest later

-- the blocks that are left without the one that an instruction ends
abbrev pub left_behind : BlockAt → Instr → ℕ → List ℕ → List ℕ
left_behind block_at instr at left = drop (length (ends_at block_at instr at)) left

-- where the machine is, by its job; a WRITE that runs is two words before what comes next
abbrev pub StandsFor : RiscProgram → BlockAt → Job → List ℕ → ℕ → List Instr → Type 0
StandsFor program block_at (Running instr ds) left pc body =
    (left ≡ ends_at block_at instr (pc - 8) ++ left_behind block_at instr (pc - 8) left) × IsMarked block_at instr (pc - 8)
    × Walks program block_at pc body (left_behind block_at instr (pc - 8) left)
StandsFor program block_at _ left pc body = Walks program block_at pc body left

-- a job that is no data instruction
abbrev pub IsAtRest : Job → Type 0
IsAtRest (Running instr ds) = ⊥
IsAtRest _ = Unit {0}

pub rest-StandsFor : (program : RiscProgram) (block_at : BlockAt) (job : Job) (left : List ℕ) (pc : ℕ) (body : List Instr) → IsAtRest job →
    StandsFor program block_at Idle left pc body → StandsFor program block_at job left pc body
rest-StandsFor program block_at Idle left pc body rests h = h
rest-StandsFor program block_at (Waiting ctl resync code) left pc body rests h = h
rest-StandsFor program block_at (Running instr ds) left pc body rests h = absurd rests

-- a machine that waits goes on waiting or is idle

unless_rests : (unless : Bool) (m : State) → IsAtRest m.job → IsAtRest (with_fdsr_unless unless m).job
unless_rests true m rests = rests
unless_rests false m rests = rests

met_rests : (same : Bool) (ctl : Ctl) (resync : Bool) (m : State) → IsAtRest m.job → IsAtRest (met same ctl resync m).job
met_rests true ctl resync m rests = tt
met_rests false ctl resync m rests = unless_rests resync (without_codes m) rests

code_rests : (seen : Option Code) (ctl : Ctl) (resync : Bool) (code : Code) (m : State) → IsAtRest m.job →
    IsAtRest (code_seen seen ctl resync code m).job
code_rests None ctl resync code m rests = rests
code_rests (Some seen) ctl resync code m rests = met_rests (code_number seen == code_number code) ctl resync m rests

stray_rests : (stray : Option Queue) (ctl : Ctl) (resync : Bool) (code : Code) (m : State) → IsAtRest m.job →
    IsAtRest (stray_seen stray ctl resync code m).job
stray_rests (Some q) ctl resync code m rests = unless_rests resync (with_queue q (removed (queue_state q m.queues)) m) rests
stray_rests None ctl resync code m rests = code_rests (common_code m.queues) ctl resync code m rests

pub waited-IsAtRest : (ctl : Ctl) (resync : Bool) (code : Code) (m : State) → IsAtRest m.job → IsAtRest (waited ctl resync code m).job
waited-IsAtRest ctl resync code m rests = stray_rests (lowest_stray m.queues) ctl resync code m rests

-- the retirement of an instruction is the block end that is known of it
pub retired_ends : (block_at : BlockAt) (instr : Instr) (ds : Demands) (pc : ℕ) → is_done ds ≡ true →
    end_list (ended_by block_at (Running instr ds) pc) ≡ ends_at block_at instr (pc - 8)
retired_ends block_at (Write ctl ends off count address) ds pc done = ap end_list (cond-true (is_done ds) (block_at (pc - 8)) None done)
retired_ends block_at (Skip ctl ends count) ds pc done = refl
retired_ends block_at (WriteC ctl ends off count) ds pc done = refl
retired_ends block_at (Jump ctl target) ds pc done = refl
retired_ends block_at (Sync ctl resync code) ds pc done = refl
retired_ends block_at (Write123 ctl ends off counts addrs) ds pc done = refl
retired_ends block_at (Skip123 ctl ends counts) ds pc done = refl
retired_ends block_at (Write1S23 ctl ends off counts addr) ds pc done = refl

pub unretired_ends : (block_at : BlockAt) (instr : Instr) (ds : Demands) (pc : ℕ) → is_done ds ≡ false →
    ended_by block_at (Running instr ds) pc ≡ None
unretired_ends block_at (Write ctl ends off count address) ds pc undone = cond-false (is_done ds) (block_at (pc - 8)) None undone
unretired_ends block_at (Skip ctl ends count) ds pc undone = refl
unretired_ends block_at (WriteC ctl ends off count) ds pc undone = refl
unretired_ends block_at (Jump ctl target) ds pc undone = refl
unretired_ends block_at (Sync ctl resync code) ds pc undone = refl
unretired_ends block_at (Write123 ctl ends off counts addrs) ds pc undone = refl
unretired_ends block_at (Skip123 ctl ends counts) ds pc undone = refl
unretired_ends block_at (Write1S23 ctl ends off counts addr) ds pc undone = refl
