-- The programs of a chain: that of each part alone, and that without parts. One is in the machine.
use Rattle.std.specs.Prelude.{◌≡◌, ℕ, ◌-◌, ◌/◌, ◌%◌, ◌<◌, ◌&&◌, ◌==◌, List, length, Option, Some, None, if◌then◌else◌, nat_le, nat_lt}
use Rattle.std.specs.Prelude.{slice_index_or}
use Rattle.machine_model.specs.Paths.{RiscProgram}
use Rattle.machine_model.specs.Safety.{IsSafe}
use Rattle.machine_model.specs.States.{State}
use Rattle.machine_model.specs.Steps.{with_program}
use Rattle.chain_model.specs.Chains.{Chain, IsChain, IsPart, IsSoundChain, Patching, alone, part_at}

-- whose program is kept at the place of a part: its own, or none where its own is in the machine
abbrev pub kept_part : Option ℕ → ℕ → Option ℕ
kept_part None part = Some part
kept_part (Some current) part = if current == part then None else Some part

-- the program of the current part is in the machine, and the others are kept
pub record IsWheel (chain : Chain) (running : RiscProgram) (programs : List RiscProgram) (current : Option ℕ) : Type 0 where
  pub is : IsChain chain
  pub sound : IsSoundChain chain
  pub part : IsPart chain current
  pub runs : running ≡ alone chain current
  pub count : length programs ≡ length chain.parts
  pub kept : (part : ℕ) → part < length chain.parts → slice_index_or programs part running ≡ alone chain (kept_part current part)

-- the machine is safe with the program of a part, and without parts
pub record CanEnter (chain : Chain) (part : Option ℕ) (m : State) (programs : List RiscProgram) (current : Option ℕ) : Type 0 where
  pub wheel : IsWheel chain m.program programs current
  pub there : IsPart chain part
  pub home : IsSafe (with_program (alone chain None) m)
  pub safe : IsSafe (with_program (alone chain part) m)

-- the program of a part came into the machine
pub record Entered (chain : Chain) (part : Option ℕ) (before m : State) (programs : List RiscProgram) (current : Option ℕ) : Type 0 where
  pub wheel : IsWheel chain m.program programs current
  pub current_is : current ≡ part
  pub machine : m ≡ with_program (alone chain part) before

-- the slot at an address, if one is there
abbrev pub slot_of : ℕ → ℕ → Option ℕ → Option ℕ
slot_of base slots None = None
slot_of base slots (Some address) =
    if nat_le base address && (address - base) % 8 == 0 && nat_lt ((address - base) / 8) slots
    then Some ((address - base) / 8)
    else None

-- before and after the program of a slot's part comes into the machine, where the next turn fetches at a slot
abbrev pub EntersAt : Chain → Option ℕ → Patching → State → List RiscProgram → Option ℕ → Type 0
EntersAt chain None patching m programs current = IsWheel chain m.program programs current
EntersAt chain (Some slot) patching m programs current = CanEnter chain (part_at patching slot) m programs current

abbrev pub EnteredAt : Chain → Option ℕ → Patching → State → State → List RiscProgram → Option ℕ → Type 0
EnteredAt chain None patching before m programs current = IsWheel chain m.program programs current × (m ≡ before)
EnteredAt chain (Some slot) patching before m programs current = Entered chain (part_at patching slot) before m programs current
