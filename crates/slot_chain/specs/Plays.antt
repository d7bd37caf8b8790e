-- What the steps of a stream make of a chain.
use Rattle.std.specs.Prelude.{ℕ, ◌==◌, List, [], ◌∷◌, Option, Some, None, if◌then◌else◌, replicate}
use Rattle.std.specs.List.{flat_map}
use Rattle.machine_model.specs.Steps as machine
use Rattle.capture_file.specs.declared.Step.{Step}
use Rattle.capture_file.specs.declared.Step.TheVariants.{Push, Control, Turns, Host, Patch}
use Rattle.chain_model.specs.Live.{LiveStep, Plain, live_run}
use Rattle.chain_model.specs.Live as live
use Rattle.slot_chain.specs.States.{ChainState}
use Rattle.slot_chain.specs.Pairs.{part_for}

-- the byte that stands for no buffer
abbrev pub no_buffer : ℕ
no_buffer = 255

-- the part of a slot that a patch asks for
abbrev pub part_asked : ℕ → ℕ → Option ℕ
part_asked slot buffer = if buffer == no_buffer then None else Some (part_for slot buffer)

-- the live steps that a step of a stream stands for
abbrev pub live_steps : Step → List LiveStep
live_steps (Push queue entry) = Plain (machine.Push queue entry) ∷ []
live_steps (Control code) = Plain (machine.Control code) ∷ []
live_steps (Turns count) = replicate count (Plain machine.Turn)
live_steps (Host write) = Plain (machine.Host write) ∷ []
live_steps (Patch slot buffer) = live.Patch slot (part_asked slot buffer) ∷ []

abbrev pub all_live_steps : List Step → List LiveStep
all_live_steps steps = flat_map live_steps steps

-- what a step of a stream makes of a chain
abbrev pub chain_act : Step → ChainState → ChainState
chain_act step state = record state { live = live_run state.chain state.live (live_steps step) }
