-- The law of rings over the places of a run of a ring's program: place k is the moment before step k.
use Rattle.std.specs.List.{All}
use Rattle.std.specs.Prelude.{List, Some, false, length, ℕ, ◌%◌, ◌+◌, ◌<◌, ◌≡◌, ◌≤◌}
use Rattle.ring_model.specs.Rings.{IsRing, Ring, ring_program, ends}
use Rattle.ring_model.specs.Runs.{block_end, block_ends, end_seen, block_ends_seen}
use Rattle.machine_model.specs.Safety.{IsSafe, IsStep}
use Rattle.machine_model.specs.States.{State, first_state}
use Rattle.machine_model.specs.Steps.{Step, Turn, state_at}
use Rattle.picture_law.specs.Runs.{between, step_at}
use Rattle.machine_model.specs.Seen.{seen}
use Rattle.machine_model.specs.Turns.{sets_fdsr}
use Rattle.ring_law.specs.RingRuns.{IsRingRun, ShowsBlocks}

-- the state at a place of a run from the first state
abbrev pub state_of : Ring → List Step → ℕ → State
state_of r steps place = state_at (first_state (ring_program r) r.fill) steps place

-- a ring run goes from place j up to and with step k, which ends a block
pub record EndsBlockAt (r : Ring) (lines : List (List ℕ)) (steps : List Step) (j k block : ℕ) : Type 0 where
  pub ring : IsRing r
  pub later : j ≤ k
  pub there : k < length steps
  pub runs : IsRingRun r lines (state_of r steps j) (between j (k + 1) steps)
  pub ends : block_end (ends r) (state_of r steps k) (step_at steps k) ≡ Some block

-- how many block ends there are from a place up to another
abbrev pub ends_between : Ring → List Step → ℕ → ℕ → ℕ
ends_between r steps j k = block_ends (ends r) (state_of r steps j) (between j k steps)

-- step k ends the block whose turn it is, and after it the lines are in the blocks, against memory at place j
abbrev pub RunShowsBlocks : Type 0
RunShowsBlocks =
    (r : Ring) (lines : List (List ℕ)) (steps : List Step) (j k block : ℕ) → All IsStep steps → EndsBlockAt r lines steps j k block →
    (block ≡ ends_between r steps j k % r.blocks)
    × ShowsBlocks r lines (ends_between r steps j k) (state_of r steps j) (state_of r steps (k + 1))

-- no turn from place j up to step k sets FDSR, whether or not the bit is set already
abbrev pub RunShowsNoFault : Type 0
RunShowsNoFault =
    (r : Ring) (lines : List (List ℕ)) (steps : List Step) (j k block i : ℕ) → All IsStep steps → EndsBlockAt r lines steps j k block →
    j ≤ i → i ≤ k → step_at steps i ≡ Turn → sets_fdsr (state_of r steps i) ≡ false

-- the block ends that are seen of the turns are the block ends, at each safe state of a ring's program and over steps
-- from one
abbrev pub TurnsSeenEndBlocks : Type 0
TurnsSeenEndBlocks =
    (r : Ring) (m : State) → IsRing r → m.program ≡ ring_program r → IsSafe m → end_seen (ends r) (seen m) ≡ block_end (ends r) m Turn

abbrev pub BlocksSeenAreEnded : Type 0
BlocksSeenAreEnded = (r : Ring) (m : State) (steps : List Step) → IsRing r → m.program ≡ ring_program r → IsSafe m → All IsStep steps →
    block_ends_seen (ends r) m steps ≡ block_ends (ends r) m steps
