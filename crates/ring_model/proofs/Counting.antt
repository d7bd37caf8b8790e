-- Block ends are counted step by step.
use Rattle.std.proofs.Common.{List, [], arith, ◌++◌, ◌+◌, ◌∷◌, ◌≡◌}
use Rattle.ring_model.specs.Runs.{BlockAt, block_ends}
use Rattle.machine_model.specs.States.{State}
use Rattle.machine_model.specs.Steps.{Step, run, step}

pub block_ends-append : (block_at : BlockAt) (m : State) (xs ys : List Step) →
    block_ends block_at m (xs ++ ys) ≡ block_ends block_at m xs + block_ends block_at (run m xs) ys
block_ends-append block_at m [] ys = omega arith
block_ends-append block_at m (x ∷ xs) ys = let rest = block_ends-append block_at (step x m) xs ys in omega arith
