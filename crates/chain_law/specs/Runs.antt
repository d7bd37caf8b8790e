-- What a live run from the first state promises at all its places: place k is the moment before step k.
use Rattle.std.specs.Prelude.{◌≡◌, ℕ, ◌+◌, ◌*◌, ◌<◌, ◌≤◌, true, false, All, List, length}
use Rattle.fifo_model.specs.declared.Queue.{Queue}
use Rattle.fifo_model.specs.Queues.{queue_state}
use Rattle.pixel_layout.specs.declared.Parity.{Parity}
use Rattle.machine_model.specs.Turns.{sets_fdsr}
use Rattle.machine_model.specs.Steps.{Turn}
use Rattle.capture_desc.specs.declared.desc.Desc.{Desc}
use Rattle.picture_model.specs.Described.{describes}
use Rattle.picture_model.specs.Programs.{size}
use Rattle.field_law.specs.Arrivals.{coming, entries_of, over_queues, turns_in}
use Rattle.picture_law.specs.Pictures.{Picture, After, IsPicture}
use Rattle.picture_law.specs.Laws.{TellsField}
use Rattle.chain_model.specs.Chains.{Chain, IsChain, IsSoundChain}
use Rattle.chain_model.specs.Live.{IsLiveStep, Live, LiveInside, LiveStep, Plain, first_live, mets}
use Rattle.chain_law.specs.Fragments.{IsFragment}
use Rattle.chain_law.specs.Pictures.{ArrivesAt, IsFirstSignal, between, live_of, section_in, step_at}

-- a field that a description describes, and a picture of it; the description's fragment is a part of the chain
pub record IsPartPicture (chain : Chain) (part : ℕ) (d : Desc) (field : Parity) (picture : Picture) : Type 0 where
  pub is_part : part < length chain.parts
  pub fragment : IsFragment chain part d
  pub described : describes d.fields field ≡ true
  pub pictured : IsPicture d field picture

-- the first signal of the field after place j is step k, and the picture arrives at j over the steps j to k, of which some
-- may be patches
pub record ArrivesUpTo (chain : Chain) (part : ℕ) (d : Desc) (field : Parity) (picture : Picture) (fill : ℕ) (steps : List LiveStep)
    (j k : ℕ) : Type 0 where
  pub signal : IsFirstSignal (section_in chain part d field) chain (first_live chain fill) steps j k
  pub arrives : ArrivesAt chain part d field picture (live_of chain fill steps j) (between j (k + 1) steps)

-- what the turn at a place writes is granted, what it fetches is a word of the chain, and OCERR is 0
abbrev pub LiveRunStaysInside : Chain → ℕ → List LiveStep → Type 0
LiveRunStaysInside chain fill steps = (place : ℕ) → LiveInside chain (live_of chain fill steps place)

-- memory is that of before with the picture, RISCI is set, and the RISC status is that of the field
pub record IsLiveShown (d : Desc) (field : Parity) (picture : Picture) (before now : Live) : Type 0 where
  pub memory : After d field picture before.machine.memory now.machine.memory
  pub told : TellsField field now.machine

-- after step k the picture is shown over the memory at place j
abbrev pub LiveRunShowsPictures : Chain → ℕ → List LiveStep → Type 0
LiveRunShowsPictures chain fill steps =
    (part : ℕ) (d : Desc) (field : Parity) (picture : Picture) (j k : ℕ) → IsPartPicture chain part d field picture →
    ArrivesUpTo chain part d field picture fill steps j k →
    IsLiveShown d field picture (live_of chain fill steps j) (live_of chain fill steps (k + 1))

-- no turn from j to k sets FDSR, whether or not the bit is set already
abbrev pub LiveRunShowsNoFault : Chain → ℕ → List LiveStep → Type 0
LiveRunShowsNoFault chain fill steps =
    (part : ℕ) (d : Desc) (field : Parity) (picture : Picture) (j k i : ℕ) → IsPartPicture chain part d field picture →
    ArrivesUpTo chain part d field picture fill steps j k → j ≤ i → i ≤ k → step_at steps i ≡ Plain Turn →
    sets_fdsr (live_of chain fill steps i).machine ≡ false

-- where the picture arrives at place j over the steps up to place l, and at place i all entries up to the field's last were
-- pushed, the first signal is before l once there are so many turns from i to l: five for each instruction from the opening
-- to the closing, and one for each entry
abbrev pub LiveRunSignalsInTime : Chain → ℕ → List LiveStep → Type 0
LiveRunSignalsInTime chain fill steps =
    (part : ℕ) (d : Desc) (field : Parity) (picture : Picture) (j i l : ℕ) → IsPartPicture chain part d field picture →
    j ≤ i → i ≤ l → l ≤ length steps →
    (arrives : ArrivesAt chain part d field picture (live_of chain fill steps j) (between j l steps)) →
    ((q : Queue) → entries_of arrives.before arrives.entries q ≤
    length (queue_state q (live_of chain fill steps j).machine.queues).entries + length
    (coming (mets chain (live_of chain fill steps j).patching (between j i steps)) q)) →
    5 * size d field + over_queues (entries_of arrives.before arrives.entries) ≤ turns_in (mets chain (live_of chain fill steps i).patching
    (between i l steps)) →
    (k : ℕ) × IsFirstSignal (section_in chain part d field) chain (first_live chain fill) steps j k × (k < l)

-- all this of one run
pub record KeepsLivePromises (chain : Chain) (fill : ℕ) (steps : List LiveStep) : Type 0 where
  pub inside : LiveRunStaysInside chain fill steps
  pub shown : LiveRunShowsPictures chain fill steps
  pub quiet : LiveRunShowsNoFault chain fill steps
  pub in_time : LiveRunSignalsInTime chain fill steps

abbrev pub LiveRunsKeepPromises : Type 0
LiveRunsKeepPromises =
    (chain : Chain) (fill : ℕ) (steps : List LiveStep) →
    IsChain chain → IsSoundChain chain → All (IsLiveStep chain) steps → KeepsLivePromises chain fill steps
