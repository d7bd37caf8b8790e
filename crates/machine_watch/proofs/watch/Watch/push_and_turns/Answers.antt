use Rattle.std.proofs.Common.{arith}
use Rattle.machine_model.specs.Seen.{seen}
use Rattle.machine_model.specs.Steps.{push}
use Rattle.machine_watch.proofs.Keeping.{taken}
use Rattle.machine_watch.proofs.watch.Watch.push_and_turns.Goals as goal

pub returns-then-push_and_take : goal.returns-then-push_and_take
returns-then-push_and_take g c =
    let made = c.push_and_take.ensures in
    let pushed = push c.args.queue c.args.entry c.args.machine.now in
    taken g.Self.Watch.notes c.args.queue c.args.entry c.args.count c.args.machine.now c.push_and_take.new.self
    c.turns-then-push_and_take.new.machine c.args.self.now c.took_whole.new.self c.turns-then-push_and_take.new.self
    (omega (arith, c.if-count-eq0.false)) (made.taken c.if-push_and_take.true) (made.seen c.if-push_and_take.true)
    (c.took_whole.ensures pushed.program (seen pushed).at) c.turns-then-push_and_take.ensures
