-- What a ring run shows at its block end.
use Rattle.std.specs.List.{All}
use Rattle.std.specs.Prelude.{List, Some, [], false, ℕ, ◌%◌, ◌++◌, ◌∷◌, ◌≡◌}
use Rattle.machine_model.specs.Safety.{IsOrderly, IsStep}
use Rattle.ring_model.specs.Rings.{IsRing, Ring, ends}
use Rattle.ring_model.specs.Runs.{block_end, block_ends}
use Rattle.machine_model.specs.States.{State}
use Rattle.machine_model.specs.Steps.{Step, Turn, run}
use Rattle.page_table.specs.Blocks.{chunks_of}
use Rattle.machine_model.specs.Turns.{sets_fdsr}
use Rattle.ring_law.specs.RingRuns.{IsRingRun, ShowsBlocks}

-- a ring run goes from a machine that waits in the ring's SYNC up to and with a block end; the machine is as every run
-- leaves it, with memory for what the program may write
pub record EndsBlock (r : Ring) (lines : List (List ℕ)) (m : State) (early : List Step) (block : ℕ) : Type 0 where
  pub ring : IsRing r
  pub orderly : IsOrderly m
  pub chunks : chunks_of m.memory ≡ m.program.grants
  pub made : All IsStep early
  pub runs : IsRingRun r lines m (early ++ Turn ∷ [])
  pub ends : block_end (ends r) (run m early) Turn ≡ Some block

-- block ends come in the order of the blocks, round after round; after each the lines are in its block, RISCI is set,
-- and the RISC status is the number of the block
abbrev pub RingsShowTheirBlocks : Type 0
RingsShowTheirBlocks = (r : Ring) (lines : List (List ℕ)) (m : State) (early : List Step) (block : ℕ) → EndsBlock r lines m early block →
    (block ≡ block_ends (ends r) m early % r.blocks) × ShowsBlocks r lines (block_ends (ends r) m early) m (run m (early ++ Turn ∷ []))

-- no turn up to a block end sets FDSR
abbrev pub RingsShowNoFault : Type 0
RingsShowNoFault = (r : Ring) (lines : List (List ℕ)) (m : State) (early : List Step) (block : ℕ) → EndsBlock r lines m early block →
    (before after : List Step) → early ++ Turn ∷ [] ≡ before ++ Turn ∷ after → sets_fdsr (run m before) ≡ false
