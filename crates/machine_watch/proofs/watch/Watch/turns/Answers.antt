use Rattle.std.proofs.Common.{refl, sym, ◌∙◌}
use Rattle.machine_watch.specs.Watches.{watching}
use Rattle.machine_watch.proofs.Keeping.{rest_still}
use Rattle.machine_watch.proofs.watch.Watch.turns.Goals as goal

pub returns-then-stands_still : goal.returns-then-stands_still
returns-then-stands_still g c =
    rest_still g.Self.Watch.notes g.met.Self.Watch.still c.args.count c.args.count
    (watching c.args.machine.now c.args.self.now) c.args.machine.now c.stand.new.self c.args.self.now
    (sym c.stands_still.ensures.still ∙ c.if-stands_still.true) c.stand.ensures.state refl
