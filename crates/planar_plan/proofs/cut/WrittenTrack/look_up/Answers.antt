use Rattle.std.proofs.Common.{◌≡◌, ◌+◌, ◌*◌, refl, ap, ◌∙◌, min, arith}
use Rattle.planar_plan.proofs.Reaching.{bytes_left, most-written, run-IsWindow, run-Reaches}
use Rattle.planar_plan.proofs.cut.WrittenTrack.look_up.Goals as goal

pub overflow_add-offset : goal.overflow_add-offset
overflow_add-offset c =
    let left =
    bytes_left c.args.left.at c.args.left.rest c.args.self.size c.args.self.start c.args.scatter.now.len c.requires.some c.requires.held.0
    c.requires.held.1 in
    rw (c.from.ensures, c.from-2.ensures) (omega arith)

pub returns-clause-reach : goal.returns-clause-reach
returns-clause-reach c =
    let offset : c.args.self.start + c.from.result * c.from-2.result ≡ c.args.self.start + c.args.left.at * c.args.self.size =
    rw (c.from.ensures, c.from-2.ensures) in
    let grains =
    c.held_by.ensures.grains
    ∙ ap (min c.args.left.rest) (most-written c.args.self.size c.run-address.result.1 c.args.left.rest c.requires.held.0) in
    run-Reaches c.args.scatter.now c.args.self.size c.args.self.start c.args.left.at c.args.left.rest
    (c.args.self.start + c.from.result * c.from-2.result) c.run-address.result _
    offset c.run-address.ensures.value c.requires.some c.requires.held.0 c.requires.held.1 refl grains

pub returns-clause-window : goal.returns-clause-window
returns-clause-window c =
    let s = c.args.scatter.now in
    let left =
    bytes_left c.args.left.at c.args.left.rest c.args.self.size c.args.self.start s.len c.requires.some c.requires.held.0
    c.requires.held.1 in
    let same : c.from.result * c.from-2.result ≡ c.args.left.at * c.args.self.size = rw (c.from.ensures, c.from-2.ensures) in
    let offset = c.args.self.start + c.from.result * c.from-2.result in
    run-IsWindow s offset c.run-address.result _ c.run-address.ensures.list (omega (arith, left.0)) c.run-address.ensures.value refl
    (ap (λ n. offset + n) c.from-3.ensures) refl
