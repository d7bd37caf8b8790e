use Rattle.machine_watch.proofs.Keeping.{turned}
use Rattle.machine_watch.proofs.watch.Watch.turn.Goals as goal

pub returns : goal.returns
returns g c =
    let seen = c.turn_seen-seen in
    turned g.Self.Watch.notes c.args.machine.now seen.new.self c.program.result.now seen.result c.args.self.now c.saw.new.self
    seen.ensures.state c.program.ensures.program seen.ensures.seen c.saw.ensures
