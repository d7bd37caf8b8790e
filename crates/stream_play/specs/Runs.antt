-- The run of a program over a stream file.
use Rattle.std.specs.Prelude.{◌≡◌, ℕ, ◌+◌, Bool, List, [], ◌∷◌, Option, Ok, Err, true, false}
use Rattle.capture_desk.specs.Desks.{Inputs}
use Rattle.machine_model.specs.Paths.{RiscProgram}
use Rattle.machine_model.specs.States.{State, first_state}
use Rattle.machine_model.specs.Steps.{run}
use Rattle.capture_file.specs.declared.Input.TheVariants.{Stream}
use Rattle.capture_file.specs.declared.Step.{Step}
use Rattle.capture_file.specs.Streams.{steps_of, steps_run, stream_of, turns_of}
use Rattle.command_texts.specs.declared.refusal.Refusal.{Refusal}
use Rattle.command_texts.specs.declared.refusal.Refusal.TheVariants.{Malformed}
use Rattle.command_steps.specs.Inputs.{ByBytes, Input, Judge, OfInput}
use Rattle.capture_desc.specs.declared.desc.Desc.{Desc}
use Rattle.chain_model.specs.Chains.{Chain}
use Rattle.chain_model.specs.Live.{Live, LiveStep, first_live, live_run}
use Rattle.slot_chain.specs.States.{ChainState}
use Rattle.slot_chain.specs.Pairs.{chain_of_two}
use Rattle.slot_chain.specs.Plays.{all_live_steps}
use Rattle.ring_model.specs.Rings.{Ring, ends}
use Rattle.ring_model.specs.Runs.{block_ends}
use Rattle.ring_machine.specs.States.{RingState}
use Rattle.machine_watch.specs.Watches.{watching}
use Rattle.stream_play.specs.Plays.{EndsWell, longest_stream}

-- ---- stream files

-- an input isn't a stream of the form for chains, or of another
abbrev pub IsBadStream : Bool → List ℕ → Refusal → Option Inputs → Type 0
IsBadStream chained name (Malformed Stream fault) inputs = OfInput name inputs (λ bytes. steps_of longest_stream chained bytes ≡ Err fault)
IsBadStream chained name _ inputs = ⊥

abbrev pub HoldsSteps : Bool → List ℕ → Type 0
HoldsSteps chained bytes = (steps : List Step) × (steps_of longest_stream chained bytes ≡ Ok steps)

-- the first bytes of a stream hold no fault, so that more of it may be read
abbrev pub HoldsNoFault : Bool → List ℕ → Type 0
HoldsNoFault chained bytes = EndsWell (stream_of longest_stream chained bytes)

abbrev pub stream_files : Bool → Judge
stream_files chained =
    record {
      most = longest_stream;
      kept = false;
      MayGoOn = HoldsNoFault chained;
      IsGood = ByBytes (HoldsSteps chained);
      IsBad = IsBadStream chained;
    }

abbrev pub a_stream_file : Bool → List ℕ → Input
a_stream_file chained name = record { name = name; judge = stream_files chained }

abbrev pub a_stream : List ℕ → Input
a_stream name = a_stream_file false name

-- all turns of a stream
abbrev pub turns_in : List Step → ℕ
turns_in [] = 0
turns_in (step ∷ steps) = turns_of step + turns_in steps

-- ---- runs

-- what ran: a program and the byte that fills its memory, over some steps
pub record Ran : Type 0 where
  pub program : RiscProgram
  pub fill : ℕ
  pub steps : List Step

-- the machine before its first step, in which every granted byte is the fill, and the machine after all steps
abbrev pub first_of : Ran → State
first_of r = first_state r.program r.fill

abbrev pub last_of : Ran → State
last_of r = run (first_of r) (steps_run r.steps)

-- a file gave the program and the fill, and the steps are those of a whole stream
pub record IsRun (Gives : List ℕ → RiscProgram → ℕ → Type 0) (file stream : List ℕ) (r : Ran) : Type 0 where
  pub gives : Gives file r.program r.fill
  pub reads : steps_of longest_stream false stream ≡ Ok r.steps

-- P of what ran, where the desk tells the inputs
abbrev pub OfRun : (List ℕ → RiscProgram → ℕ → Type 0) → List ℕ → List ℕ → Option Inputs → (Ran → Type 0) → Type 0
OfRun Gives file stream inputs P =
    OfInput file inputs (λ a. OfInput stream inputs (λ b. (r : Ran) × IsRun Gives a b r × P r))

-- ---- runs of a ring

-- the machine of a ring took the steps of a whole stream, from a state in which no block was counted; the blocks are the
-- block ends over all of them
abbrev pub HasPlayedRing : List ℕ → Ring → State → RingState → Type 0
HasPlayedRing bytes ring m now =
    (steps : List Step) × (steps_of longest_stream false bytes ≡ Ok steps)
    × (now ≡ watching (run m (steps_run steps)) (record { ring = ring; blocks = block_ends (ends ring) m (steps_run steps) }))

-- ---- runs of the chain of two descriptions

-- two descriptions, whose chain ran over the steps of a stream, patches among them
pub record LiveRan : Type 0 where
  pub first : Desc
  pub second : Desc
  pub steps : List Step

abbrev pub chain_ran : LiveRan → Chain
chain_ran r = chain_of_two r.first r.second

abbrev pub live_steps_of : LiveRan → List LiveStep
live_steps_of r = all_live_steps r.steps

-- the chain and its machine after all steps, from a memory in which every granted byte is the first description's fill
abbrev pub last_live_of : LiveRan → Live
last_live_of r = live_run (chain_ran r) (first_live (chain_ran r) r.first.fill) (live_steps_of r)

-- a chain took the steps of a whole stream
abbrev pub HasPlayedChain : List ℕ → Desc → Desc → ChainState → Type 0
HasPlayedChain bytes first second now =
    (steps : List Step) × (steps_of longest_stream true bytes ≡ Ok steps)
    × (now.live ≡ last_live_of (record { first = first; second = second; steps = steps }))
