use Rattle.std.proofs.Common.{◌≡◌, ◌+◌, ◌*◌, ap, refl, arith}
use Rattle.planar_plan.proofs.Reaching.{window-Reaches}
use Rattle.planar_plan.proofs.cut.WrittenTrack.reach.Goals as goal

pub returns-clause-reach : goal.returns-clause-reach
returns-clause-reach c =
    let here : c.from.result * c.from-2.result ≡ c.args.left.at * c.args.self.size = rw (c.from.ensures, c.from-2.ensures) in
    let left : c.from-3.result * c.from-4.result ≡ c.args.left.rest * c.args.self.size = rw (c.from-3.ensures, c.from-4.ensures) in
    let offset = c.args.self.start + c.from.result * c.from-2.result in
    window-Reaches c.args.scatter.now c.args.window.now c.args.self.size c.args.self.start c.args.left.at c.args.left.rest offset _
    c.requires.window c.requires.some
    c.requires.held.0 (ap (λ n. c.args.self.start + n) here) (omega arith) (omega arith) refl refl
