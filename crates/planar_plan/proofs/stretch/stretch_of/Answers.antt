use Rattle.std.proofs.Common.{◌≡◌, ◌*◌, arith}
use Rattle.planar_plan.specs.Lines.{track_of}
use Rattle.planar_plan.proofs.Stretching.{run_stretch}
use Rattle.planar_plan.proofs.stretch.stretch_of.Goals as goal

pub returns-clause-stretch : goal.returns-clause-stretch
returns-clause-stretch c =
    let same : c.from.result * c.from-2.result ≡ c.args.grains * c.args.track.size = rw (c.from.ensures, c.from-2.ensures) in
    run_stretch c.args.scatter.now c.args.grains (track_of c.args.track) c.in-Some.start c.run-address.result c.run-address.ensures.list
    c.requires.held c.in-Some.is (omega arith) (omega arith) (omega arith) c.run-address.ensures.value
