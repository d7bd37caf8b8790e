-- A machine that is at no slot goes on as if nothing were patched.
use Rattle.std.specs.Prelude.{◌≡◌, ℕ, ◌≤◌, Bool, true, false, ◌&&◌, All, List, [], ◌∷◌, Option, nat_lt}
use Rattle.machine_model.specs.declared.Job.{Job}
use Rattle.machine_model.specs.declared.Job.TheVariants.{Idle}
use Rattle.machine_model.specs.States.{State}
use Rattle.machine_model.specs.Steps.{Step, run, with_program}
use Rattle.chain_model.specs.Chains.{Chain, IsChain, IsSoundChain, alone, slot_at}
use Rattle.chain_model.specs.Live.{IsLiveStep, Live, LiveStep, Patch, Plain, live_step}
use Rattle.chain_law.specs.Pictures.{between, live_of}

-- a machine reads a slot next
abbrev pub is_idle : Job → Bool
is_idle Idle = true
is_idle _ = false

abbrev pub is_at_slot : Chain → State → Bool
is_at_slot chain m = is_idle m.job && nat_lt m.pc (slot_at chain chain.slots)

-- before none of some steps it does
abbrev pub AreBehind : Chain → Live → List LiveStep → Type 0
AreBehind chain live [] = Unit {0}
AreBehind chain live (s ∷ steps) = (is_at_slot chain live.machine ≡ false) × AreBehind chain (live_step chain s live) steps

-- the machine's steps among some steps
abbrev pub machine_steps : List LiveStep → List Step
machine_steps [] = []
machine_steps (Plain s ∷ steps) = s ∷ machine_steps steps
machine_steps (Patch slot part ∷ steps) = machine_steps steps

-- From place j to place k the machine goes on as with a part alone patched in, whatever is patched. So a part in which it
-- is, and which is patched out, is finished up to where it leads, whatever comes: also a field that is broken off
abbrev pub LivePartsAreFinished : Type 0
LivePartsAreFinished =
    (chain : Chain) (part : Option ℕ) (fill : ℕ) (steps : List LiveStep) (j k : ℕ) → IsChain chain → IsSoundChain chain →
    All (IsLiveStep chain) steps →
    j ≤ k → AreBehind chain (live_of chain fill steps j) (between j k steps) →
    with_program (alone chain part) (live_of chain fill steps k).machine
    ≡ run (with_program (alone chain part) (live_of chain fill steps j).machine) (machine_steps (between j k steps))
