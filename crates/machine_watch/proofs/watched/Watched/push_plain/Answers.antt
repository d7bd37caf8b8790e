use Rattle.std.proofs.Common.{length, true, false, ap, refl, sym, ◌≡◌, ◌∙◌}
use Rattle.machine_model.specs.PlainEntries.{plain_steps}
use Rattle.machine_watch.specs.Watches.{watched}
use Rattle.machine_watch.proofs.Running.{first_tells, lets_fall, run_tells, run_watched}
use Rattle.machine_watch.proofs.watched.Watched.push_plain.Goals as goal

-- a burst is noted
pub returns-then-push_plain : goal.returns-then-push_plain
returns-then-push_plain g c = λ entries given.
    let i = c.self.inside in
    let notes = g.W.Watch.notes in
    let falls =
    lets_fall g.W.Watch.LETS_FALL (length c.args.dwords.now) c.args.queue c.args.self.now.machine c.requires.some c.requires.room in
    let whole = first_tells notes g.W.Watch.LETS_FALL falls.is g.met.W.Watch.whole in
    run_watched notes c.args.queue entries i.machine c.push_plain.new.self i.watch c.took_whole.new.self
    (c.push_plain.ensures.state entries given)
    (run_tells notes g.met.W.Watch.still whole c.push_plain.result c.args.queue entries i.machine i.watch c.took_whole.new.self
    (c.push_plain.ensures.taken entries given) given.plain.each (λ burst. c.took_whole.ensures)
    (λ none. let differ : true ≡ false = sym c.if-push_plain.true ∙ none in absurd cc))
    ∙ ap (watched notes (plain_steps c.args.queue entries)) c.self.view_is

-- entries that wait are not
pub returns-else-push_plain : goal.returns-else-push_plain
returns-else-push_plain g c = λ entries given.
    let i = c.self.inside in
    let notes = g.W.Watch.notes in
    let falls =
    lets_fall g.W.Watch.LETS_FALL (length c.args.dwords.now) c.args.queue c.args.self.now.machine c.requires.some c.requires.room in
    let whole = first_tells notes g.W.Watch.LETS_FALL falls.is g.met.W.Watch.whole in
    run_watched notes c.args.queue entries i.machine c.push_plain.new.self i.watch i.watch
    (c.push_plain.ensures.state entries given)
    (run_tells notes g.met.W.Watch.still whole c.push_plain.result c.args.queue entries i.machine i.watch i.watch
    (c.push_plain.ensures.taken entries given) given.plain.each
    (λ burst. let differ : true ≡ false = sym burst ∙ c.if-push_plain.false in absurd cc) (λ none. refl))
    ∙ ap (watched notes (plain_steps c.args.queue entries)) c.self.view_is
