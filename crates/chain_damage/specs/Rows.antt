-- What a live run promises of the rows of the fields that it captures. Place k is the moment before step k.
use Rattle.std.specs.Prelude.{◌≡◌, ℕ, ◌+◌, ◌<◌, ◌≤◌, Bool, true, false, All, List, length, slice_index_or}
use Rattle.fifo_model.specs.declared.Queue.{Queue}
use Rattle.pixel_layout.specs.declared.Parity.{Parity}
use Rattle.machine_model.specs.States.{State}
use Rattle.machine_model.specs.Steps.{Step, Turn, run, with_program}
use Rattle.capture_desc.specs.declared.desc.Desc.{Desc}
use Rattle.picture_model.specs.Described.{describes}
use Rattle.picture_model.specs.Programs.{section_begin}
use Rattle.field_law.specs.Arrivals.{is_signal}
use Rattle.damage_model.specs.Marks.{is_opening_at, marks_at}
use Rattle.damage_law.specs.Asked.{HoldsLine}
use Rattle.chain_model.specs.Chains.{Chain, IsChain, head}
use Rattle.chain_model.specs.Live.{IsLiveStep, LiveStep, Patch, Plain}
use Rattle.chain_law.specs.Behind.{machine_steps}
use Rattle.chain_law.specs.Fragments.{AreFragments, GrantsAll, IsFragment}
use Rattle.chain_law.specs.Pictures.{between, live_of, section_in, step_at}

-- a field of a description, whose fragment is a part of a chain that may write the description's memory
pub record IsPartField (chain : Chain) (part : ℕ) (d : Desc) (field : Parity) : Type 0 where
  pub is_part : part < length chain.parts
  pub fragment : IsFragment chain part d
  pub granted : GrantsAll chain d
  pub described : describes d.fields field ≡ true

-- where the section of a field begins in a part
abbrev pub begin_in : Chain → ℕ → Desc → Parity → ℕ
begin_in chain part d field = section_begin d (head chain part) field

-- the machine at a place, and its steps from a place up to another
abbrev pub machine_of : Chain → ℕ → List LiveStep → ℕ → State
machine_of chain fill steps place = (live_of chain fill steps place).machine

abbrev pub steps_between : List LiveStep → ℕ → ℕ → List Step
steps_between steps j k = machine_steps (between j k steps)

-- a turn that begins to wait in the opening of the field's section
abbrev pub opens_at : Chain → ℕ → Desc → Parity → State → LiveStep → Bool
opens_at chain part d field m (Plain s) = is_opening_at (begin_in chain part d field) m s
opens_at chain part d field m (Patch slot other) = false

-- step k is a signal of the field
pub record IsSignalAt (chain : Chain) (part : ℕ) (d : Desc) (field : Parity) (fill : ℕ) (steps : List LiveStep) (k : ℕ) : Type 0 where
  pub there : k < length steps
  pub turn : step_at steps k ≡ Plain Turn
  pub signal : is_signal (section_in chain part d field) (machine_of chain fill steps k) Turn ≡ true

-- step j is the last before step k that opens the field's section
pub record IsLastOpening (chain : Chain) (part : ℕ) (d : Desc) (field : Parity) (fill : ℕ) (steps : List LiveStep) (j k : ℕ) : Type 0 where
  pub earlier : j < k
  pub opens : opens_at chain part d field (machine_of chain fill steps j) (step_at steps j) ≡ true
  pub last : (i : ℕ) → j < i → i < k → opens_at chain part d field (machine_of chain fill steps i) (step_at steps i) ≡ false

-- from place j to place k the machine goes on as if nothing were patched
abbrev pub GoesOnUnpatched : Chain → ℕ → List LiveStep → ℕ → ℕ → Type 0
GoesOnUnpatched chain fill steps j k =
    (i : ℕ) → j ≤ i → i ≤ k →
    with_program (machine_of chain fill steps j).program (machine_of chain fill steps i)
    ≡ run (machine_of chain fill steps j) (steps_between steps j i)

-- which rows of the field are whole over these steps
abbrev pub marks_between : Chain → ℕ → Desc → Parity → ℕ → List LiveStep → ℕ → ℕ → List Bool
marks_between chain part d field fill steps j k =
    marks_at (begin_in chain part d field) d field (machine_of chain fill steps j) (steps_between steps j k)

-- so it goes on from the opening to the signal, and right after the signal each row that is whole holds its line
pub record HoldsRows (chain : Chain) (part : ℕ) (d : Desc) (field : Parity) (fill : ℕ) (steps : List LiveStep) (j k : ℕ) : Type 0 where
  pub unpatched : GoesOnUnpatched chain fill steps j k
  pub rows : (q : Queue) (number : ℕ) → slice_index_or (marks_between chain part d field fill steps j k) number false ≡ true →
      HoldsLine (begin_in chain part d field) d field q number (machine_of chain fill steps j) (steps_between steps j k)
      (machine_of chain fill steps (k + 1))

-- at every signal of a field since its last opening, which there is
abbrev pub LiveRunHoldsWholeRows : Chain → ℕ → List LiveStep → Type 0
LiveRunHoldsWholeRows chain fill steps =
    (part : ℕ) (d : Desc) (field : Parity) (k : ℕ) → IsPartField chain part d field → IsSignalAt chain part d field fill steps k →
    (j : ℕ) × IsLastOpening chain part d field fill steps j k × HoldsRows chain part d field fill steps j k

-- in every chain whose parts are fragments
abbrev pub LiveRunsHoldWholeRows : Type 0
LiveRunsHoldWholeRows =
    (chain : Chain) (fill : ℕ) (steps : List LiveStep) → IsChain chain → AreFragments chain → All (IsLiveStep chain) steps →
    LiveRunHoldsWholeRows chain fill steps
