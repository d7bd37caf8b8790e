-- What a run promises of the blocks of a ring, where its program is the ring's. Place k is the moment before step k.
use Rattle.std.specs.Prelude.{◌≡◌, ℕ, ◌+◌, ◌%◌, ◌≤◌, false, List}
use Rattle.machine_model.specs.States.{State, first_state}
use Rattle.machine_model.specs.Steps.{Step, Turn, state_at}
use Rattle.machine_model.specs.Turns.{sets_fdsr}
use Rattle.picture_law.specs.Runs.{step_at}
use Rattle.ring_model.specs.Rings.{Ring, ring_program}
use Rattle.ring_law.specs.RingRuns.{ShowsBlocks}
use Rattle.ring_law.specs.Runs.{EndsBlockAt, ends_between}

-- the machine begins with the program and the fill of a ring
abbrev pub Begins : Ring → State → Type 0
Begins ring first = first ≡ first_state (ring_program ring) ring.fill

-- A ring run goes from place j up to and with step k, which ends a block. Then it is the block whose turn it is, and
-- after step k the lines are in the blocks, over the memory at place j.
abbrev pub ShowsRings : State → List Step → Type 0
ShowsRings first steps =
    (ring : Ring) (lines : List (List ℕ)) (j k block : ℕ) → Begins ring first → EndsBlockAt ring lines steps j k block →
    (block ≡ ends_between ring steps j k % ring.blocks)
    × ShowsBlocks ring lines (ends_between ring steps j k) (state_at first steps j) (state_at first steps (k + 1))

-- no turn from place j up to step k sets FDSR, whether or not the bit is set already
abbrev pub RingsShowNoFault : State → List Step → Type 0
RingsShowNoFault first steps =
    (ring : Ring) (lines : List (List ℕ)) (j k block i : ℕ) → Begins ring first → EndsBlockAt ring lines steps j k block →
    j ≤ i → i ≤ k → step_at steps i ≡ Turn → sets_fdsr (state_at first steps i) ≡ false
