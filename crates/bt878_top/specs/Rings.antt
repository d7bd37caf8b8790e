-- The machine of a ring after a whole stream.
use Rattle.std.specs.Prelude.{◌≡◌}
use Rattle.ring_model.specs.Rings.{Ring}
use Rattle.ring_machine.specs.States.{RingState}
use Rattle.stream_play.specs.Runs.{Ran, last_of}
use Rattle.bt878_contract.specs.Tasks.{blocks_of}

-- it shows the last state of what ran, the fill, and the block ends over all steps
pub record ShowsRing (m : RingState) (ring : Ring) (r : Ran) : Type 0 where
  pub last : m.machine ≡ last_of r
  pub fills : m.kept.ring.fill ≡ r.fill
  pub blocks : m.kept.blocks ≡ blocks_of ring r
