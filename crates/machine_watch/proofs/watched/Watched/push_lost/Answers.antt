use Rattle.std.proofs.Common.{ap, ◌∙◌}
use Rattle.dma_machine.specs.Lost.{pushes}
use Rattle.machine_watch.specs.Watches.{watched}
use Rattle.machine_watch.proofs.Keeping.{pushes_watched}
use Rattle.machine_watch.proofs.watched.Watched.push_lost.Goals as goal

pub returns : goal.returns
returns g c = λ entries is.
    let i = c.self.inside in
    let notes = g.W.Watch.notes in
    pushes_watched notes entries i.machine c.push_lost.new.self i.watch (c.push_lost.ensures.state entries is)
    ∙ ap (watched notes (pushes entries)) c.self.view_is
