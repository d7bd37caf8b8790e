use Rattle.std.proofs.Common.{◌≡◌, ◌*◌, arith}
use Rattle.planar_plan.proofs.Reaching.{all_held, some_held}
use Rattle.planar_plan.proofs.cut.held_by.Goals as goal

pub returns-then-from-clause-grains : goal.returns-then-from-clause-grains
returns-then-from-clause-grains c =
    let same : c.from.result * c.from-2.result ≡ c.args.rest * c.args.size = rw (c.from.ensures, c.from-2.ensures) in
    all_held c.args.bytes c.args.size c.args.rest (omega arith)

pub returns-else-from-clause-grains : goal.returns-else-from-clause-grains
returns-else-from-clause-grains c =
    let same : c.from.result * c.from-2.result ≡ c.args.rest * c.args.size = rw (c.from.ensures, c.from-2.ensures) in
    (some_held c.args.bytes c.args.size c.args.rest (omega arith)).1
