use Rattle.std.proofs.Common.{◌≡◌, replicate, sym, ap, ◌∙◌, arith}
use Rattle.machine_model.specs.Steps.{Turn}
use Rattle.machine_watch.specs.Watches.{watched, watching}
use Rattle.machine_watch.proofs.Keeping.{one_fewer, rest_still}
use Rattle.machine_watch.proofs.watch.Watch.turns_apart.Goals as goal

pub loop-left-preserved : goal.loop-left-preserved
loop-left-preserved g c =
    one_fewer g.Self.Watch.notes c.args.count c.loop-left.left (watching c.args.machine.now c.args.self.now)
    (watching c.loop-left.machine c.loop-left.self) (watching c.turn.new.machine c.turn.new.self)
    (omega (arith, c.loop-left-test.true)) c.turn.ensures c.loop-left.invariant

pub returns-then-stands_still : goal.returns-then-stands_still
returns-then-stands_still g c =
    rest_still g.Self.Watch.notes g.met.Self.Watch.still c.args.count c.loop-left.left
    (watching c.args.machine.now c.args.self.now) c.loop-left.machine c.stand.new.self c.loop-left.self
    (sym c.stands_still.ensures.still ∙ c.if-stands_still.true) c.stand.ensures.state c.loop-left.invariant

pub returns : goal.returns
returns g c =
    let none : c.loop-left.left ≡ 0 = omega (arith, c.loop-left-test.false) in
    ap (λ n. watched g.Self.Watch.notes (replicate n Turn) (watching c.loop-left.machine c.loop-left.self)) (sym none)
    ∙ c.loop-left.invariant
