-- What is promised of the chain of two descriptions, and of what it plays.
use Rattle.std.specs.Prelude.{◌≡◌, ℕ, ◌<◌, All, List, [], ◌∷◌, length, None}
use Rattle.capture_desc.specs.declared.desc.Desc.{Desc}
use Rattle.picture_model.specs.Described.{IsDescription}
use Rattle.picture_model.specs.Geometry.{IsFrame}
use Rattle.capture_file.specs.declared.Step.{Step}
use Rattle.capture_file.specs.Records.{StepFits}
use Rattle.chain_model.specs.Chains.{Chain, IsChain, IsSoundChain}
use Rattle.chain_model.specs.Live.{IsLiveStep, live_run}
use Rattle.slot_chain.specs.States.{ChainState}
use Rattle.chain_law.specs.Fragments.{GrantsAll, IsFragment}
use Rattle.chain_law.specs.Runs.{KeepsLivePromises}
use Rattle.slot_chain.specs.Faults.{chain_fault}
use Rattle.slot_chain.specs.Pairs.{HasBuffers, chain_of_two, part_for, shown_by}
use Rattle.slot_chain.specs.Plays.{all_live_steps, chain_act}

-- two descriptions whose geometry is right, without a fault of their chain
pub record IsPair (first second : Desc) : Type 0 where
  pub first_description : IsDescription first
  pub first_frame : IsFrame first
  pub second_description : IsDescription second
  pub second_frame : IsFrame second
  pub no_fault : chain_fault first second ≡ None

-- a part of a chain is the fragment of a description, whose memory the chain may write
pub record ShowsDescription (chain : Chain) (part : ℕ) (d : Desc) : Type 0 where
  pub is_part : part < length chain.parts
  pub fragment : IsFragment chain part d
  pub granted : GrantsAll chain d

-- they make a sound chain
abbrev pub PairsMakeChains : Type 0
PairsMakeChains =
    (first second : Desc) → IsPair first second → IsChain (chain_of_two first second) × IsSoundChain (chain_of_two first second)

-- whose part for a slot and a buffer is the fragment of the buffer's description
abbrev pub BuffersShowDescriptions : Type 0
BuffersShowDescriptions =
    (first second : Desc) (slot buffer : ℕ) → IsPair first second → slot < 2 → buffer < 2 →
    ShowsDescription (chain_of_two first second) (part_for slot buffer) (shown_by first second buffer)

-- a step of a stream changes a chain with buffers as live steps of the chain do
abbrev pub StepsAreLive : Type 0
StepsAreLive = (chain : Chain) (steps : List Step) → HasBuffers chain → All StepFits steps → All (IsLiveStep chain) (all_live_steps steps)

-- a chain after some steps of a stream
abbrev pub played : List Step → ChainState → ChainState
played [] state = state
played (step ∷ steps) state = played steps (chain_act step state)

abbrev pub PlaysAreLiveRuns : Type 0
PlaysAreLiveRuns =
    (steps : List Step) (state : ChainState) → played steps state ≡ record state {
      live = live_run state.chain state.live (all_live_steps steps);
    }

-- so what holds of live runs holds of every stream that the chain of two descriptions plays
abbrev pub PlaysKeepPromises : Type 0
PlaysKeepPromises =
    (first second : Desc) (steps : List Step) → IsPair first second → All StepFits steps →
    KeepsLivePromises (chain_of_two first second) first.fill (all_live_steps steps)
