-- Where a machine stands still: its turns do nothing but count until a push or a write of the host comes.
use Rattle.std.specs.Prelude.{◌≡◌, Bool, true, false, not, ◌&&◌, ◌==◌, is_none, if◌then◌else◌}
use Rattle.risc_word.specs.Parts.{instr_off}
use Rattle.fifo_model.specs.declared.Queue.TheVariants.{One, Two, Three}
use Rattle.fifo_model.specs.Queues.{Queues}
use Rattle.machine_model.specs.declared.Demands.{Demands}
use Rattle.machine_model.specs.declared.Job.{Job}
use Rattle.machine_model.specs.declared.Job.TheVariants.{Idle, Waiting, Running}
use Rattle.machine_model.specs.States.{State}
use Rattle.machine_model.specs.Turns.{common_code, is_done, is_served, lowest_stray}
use Rattle.dma_machine.specs.declared.engine.Standing.{Standing}
use Rattle.dma_machine.specs.declared.engine.Standing.TheVariants.{Unknown, Still, Open}

abbrev pub waits_still : Queues → Bool
waits_still queues = is_none (lowest_stray queues) && is_none (common_code queues)

abbrev pub none_served : Demands → State → Bool
none_served ds m = not (is_served One ds m) && not (is_served Two ds m) && not (is_served Three ds m)

abbrev pub runs_still : Demands → State → Bool
runs_still ds m = not (is_done ds) && none_served ds m

abbrev pub works_still : Job → State → Bool
works_still Idle m = false
works_still (Waiting ctl resync code) m = waits_still m.queues
works_still (Running instr ds) m = runs_still ds m

abbrev pub is_still : State → Bool
is_still m = if m.risc_on then works_still m.job m else true

-- no queue's line has yet to begin
abbrev pub have_begun : Demands → Bool
have_begun ds = not ds.one.needs_sol && not ds.two.needs_sol && not ds.three.needs_sol

-- it stands still, and a plain entry falls through where its queue is asked for four bytes
abbrev pub opens : Job → State → Bool
opens (Running instr ds) m =
    m.fifo_on && m.risc_on && (m.trigger == 1) && (instr_off instr == 0) && have_begun ds && runs_still ds m
opens _ m = false

abbrev pub is_open : State → Bool
is_open m = opens m.job m

-- what a machine notes of it holds
abbrev pub StandsAs : Standing → State → Type 0
StandsAs Unknown m = Unit {0}
StandsAs Still m = is_still m ≡ true
StandsAs Open m = is_open m ≡ true
