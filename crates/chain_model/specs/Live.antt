-- Live runs of a chain: steps of the machine, and patches of the host between them.
use Rattle.std.specs.Prelude.{◌≡◌, ℕ, ◌<◌, false, List, [], ◌∷◌, take, Option, slice_set}
use Rattle.irq_status.specs.Register.{has_ocerr}
use Rattle.machine_model.specs.Paths.{RiscProgram}
use Rattle.machine_model.specs.States.{State, first_state}
use Rattle.machine_model.specs.Steps.{Step, step, with_program}
use Rattle.machine_model.specs.Safety.{IsSafe, IsStep, StaysInside}
use Rattle.chain_model.specs.Chains.{Chain, Patching, Belongs, IsPart, IsPatching, alone, patched, unpatched}

-- one step: the machine's, or a patch that lets one slot lead to a part, or to none
pub data LiveStep : Type 0 where
  Plain : Step → LiveStep
  Patch : ℕ → Option ℕ → LiveStep

abbrev pub IsLiveStep : Chain → LiveStep → Type 0
IsLiveStep chain (Plain s) = IsStep s
IsLiveStep chain (Patch slot part) = (slot < chain.slots) × Belongs chain slot part

-- a machine whose program is at all times that of the patching
pub record Live : Type 0 where
  pub patching : Patching
  pub machine : State

abbrev pub with_patch : Chain → ℕ → Option ℕ → Live → Live
with_patch chain slot part live =
    let patching = slice_set live.patching slot part in
    record { patching = patching; machine = with_program (patched chain patching) live.machine }

abbrev pub live_step : Chain → LiveStep → Live → Live
live_step chain (Plain s) live = record live { machine = step s live.machine }
live_step chain (Patch slot part) live = with_patch chain slot part live

abbrev pub live_run : Chain → Live → List LiveStep → Live
live_run chain live [] = live
live_run chain live (s ∷ steps) = live_run chain (live_step chain s live) steps

-- the first state: every granted byte is `fill`, the queues are empty, and no slot leads to a part
abbrev pub first_live : Chain → ℕ → Live
first_live chain fill = record { patching = unpatched chain; machine = first_state (patched chain (unpatched chain)) fill }

-- the state at a place of a list of steps: the moment before the step of that number
abbrev pub live_at : Chain → Live → List LiveStep → ℕ → Live
live_at chain live steps number = live_run chain live (take number steps)

-- the machine's steps among some steps, each with the program that it meets
abbrev pub mets : Chain → Patching → List LiveStep → List (RiscProgram × Step)
mets chain patching [] = []
mets chain patching (Plain s ∷ steps) = (patched chain patching, s) ∷ mets chain patching steps
mets chain patching (Patch slot part ∷ steps) = mets chain (slice_set patching slot part) steps

-- what live states of a sound chain keep: with some part alone patched in, or none, the machine is safe
pub record IsLive (chain : Chain) (live : Live) : Type 0 where
  pub patching : IsPatching chain live.patching
  pub program : live.machine.program ≡ patched chain live.patching
  pub part : Option ℕ
  pub is_part : IsPart chain part
  pub safe : IsSafe (with_program (alone chain part) live.machine)

-- the next turn stays within the granted memory and the words of the chain, and OCERR is 0
pub record LiveInside (chain : Chain) (live : Live) : Type 0 where
  pub program : live.machine.program ≡ patched chain live.patching
  pub inside : StaysInside live.machine
  pub no_error : has_ocerr live.machine.interrupts ≡ false
