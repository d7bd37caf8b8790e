-- The law of the picture over a live run: the section of a field is in a part that is a fragment, and the host may
-- patch any slot while the field comes. Arrival, signal and turns are those of steps that each meet a program.
use Rattle.std.specs.Prelude.{◌≡◌, ℕ, ◌+◌, ◌-◌, ◌<◌, ◌≤◌, true, false, All, List, length, take, drop, slice_index_or}
use Rattle.pixel_layout.specs.declared.Parity.{Parity}
use Rattle.machine_model.specs.Turns.{sets_fdsr}
use Rattle.machine_model.specs.Steps.{Turn}
use Rattle.capture_desc.specs.declared.desc.Desc.{Desc}
use Rattle.picture_model.specs.Described.{describes}
use Rattle.picture_model.specs.Programs.{section_begin, section_next}
use Rattle.field_law.specs.Sections.{Section}
use Rattle.field_law.specs.Arrivals.{Arrives, has_signal, is_signal}
use Rattle.picture_law.specs.Pictures.{Picture, After, IsField, IsPicture}
use Rattle.picture_law.specs.Sections.{section_at}
use Rattle.picture_law.specs.Laws.{TellsField}
use Rattle.chain_model.specs.Chains.{Chain, IsChain, IsSoundChain, head, next, part_of}
use Rattle.chain_model.specs.Live.{IsLiveStep, Live, LiveStep, Plain, first_live, live_at, mets}
use Rattle.chain_law.specs.Fragments.{IsFragment}

-- the section of a field in a part
abbrev pub section_in : Chain → ℕ → Desc → Parity → Section
section_in chain part d field =
    section_at d field (section_begin d (head chain part) field)
    (section_next d (head chain part) (next chain (part_of chain part).slot) field)

-- the steps from a place up to another, and the step at a place
abbrev pub between : ℕ → ℕ → List LiveStep → List LiveStep
between from to steps = take (to - from) (drop from steps)

abbrev pub step_at : List LiveStep → ℕ → LiveStep
step_at steps k = slice_index_or steps k (Plain Turn)

-- a picture of a field of a description, whose fragment is a part of a sound chain
pub record IsLiveCapture (chain : Chain) (part : ℕ) (d : Desc) (field : Parity) (picture : Picture) (steps : List LiveStep) : Type 0 where
  pub is_chain : IsChain chain
  pub sound : IsSoundChain chain
  pub is_part : part < length chain.parts
  pub fragment : IsFragment chain part d
  pub described : describes d.fields field ≡ true
  pub pictured : IsPicture d field picture
  pub made : All (IsLiveStep chain) steps

-- the picture arrives at its section over the machine's steps among some steps
abbrev pub ArrivesAt : Chain → ℕ → Desc → Parity → Picture → Live → List LiveStep → Type 0
ArrivesAt chain part d field picture live steps =
    Arrives (section_in chain part d field) (IsField d field picture) live.machine (mets chain live.patching steps)

-- the first signal of a section after place j is step k
pub record IsFirstSignal (s : Section) (chain : Chain) (live : Live) (steps : List LiveStep) (j k : ℕ) : Type 0 where
  pub later : j ≤ k
  pub there : k < length steps
  pub turn : step_at steps k ≡ Plain Turn
  pub signal : is_signal s (live_at chain live steps k).machine Turn ≡ true
  pub silent : has_signal s (live_at chain live steps j).machine
      (mets chain (live_at chain live steps j).patching (between j k steps)) ≡ false

-- the state at a place of a live run from the first state
abbrev pub live_of : Chain → ℕ → List LiveStep → ℕ → Live
live_of chain fill steps place = live_at chain (first_live chain fill) steps place

-- the first signal of the field after place j is step k, and the picture arrives at j over the steps j to k
pub record IsSignalled (chain : Chain) (part : ℕ) (d : Desc) (field : Parity) (picture : Picture) (fill : ℕ) (steps : List LiveStep)
    (j k : ℕ) : Type 0 where
  pub capture : IsLiveCapture chain part d field picture steps
  pub signal : IsFirstSignal (section_in chain part d field) chain (first_live chain fill) steps j k
  pub arrives : ArrivesAt chain part d field picture (live_of chain fill steps j) (between j (k + 1) steps)

-- memory after step k is that at place j with the picture
abbrev pub LiveShowsPicture : Type 0
LiveShowsPicture = (chain : Chain) (part : ℕ) (d : Desc) (field : Parity) (picture : Picture) (fill : ℕ) (steps : List LiveStep) (j k : ℕ) →
    IsSignalled chain part d field picture fill steps j k →
    After d field picture (live_of chain fill steps j).machine.memory (live_of chain fill steps (k + 1)).machine.memory

-- no turn from j to k sets FDSR, whether or not the bit is set already
abbrev pub LiveShowsNoFault : Type 0
LiveShowsNoFault =
    (chain : Chain) (part : ℕ) (d : Desc) (field : Parity) (picture : Picture) (fill : ℕ) (steps : List LiveStep) (j k i : ℕ) →
    IsSignalled chain part d field picture fill steps j k → j ≤ i → i ≤ k → step_at steps i ≡ Plain Turn →
    sets_fdsr (live_of chain fill steps i).machine ≡ false

-- after step k RISCI is set, and the RISC status is that of the field
abbrev pub LiveTellsField : Type 0
LiveTellsField = (chain : Chain) (part : ℕ) (d : Desc) (field : Parity) (picture : Picture) (fill : ℕ) (steps : List LiveStep) (j k : ℕ) →
    IsSignalled chain part d field picture fill steps j k → TellsField field (live_of chain fill steps (k + 1)).machine
