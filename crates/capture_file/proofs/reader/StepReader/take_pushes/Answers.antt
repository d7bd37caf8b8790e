use Rattle.std.proofs.Common.{[], ◌≡◌, ◌≤◌, ◌-◌, ◌*◌, ap, subst}
use Rattle.capture_file.specs.Pushes.{TakesPushes}
use Rattle.capture_file.specs.Readers.{HoldsAt, Reader, phase_of}
use Rattle.capture_file.specs.Streams.{most_turns}
use Rattle.capture_file.proofs.PushRuns.{reader_takes_pushes}
use Rattle.capture_file.proofs.Resumed.{reader}
use Rattle.capture_file.proofs.reader.StepReader.take_pushes.Goals as goal

pub returns-clause-taken : goal.returns-clause-taken
returns-clause-taken c =
    let i = c.self.inside in
    let between = c.in-Between.is in
    let holds : HoldsAt i.state i.held = c.self.invariant.1 in
    let none : i.held ≡ [] = rw between at holds in
    let known = c.count_pushes-count.ensures in
    let count = c.count_pushes-count.result.0 in
    let counts = c.count_pushes-count.result.1 in
    let after : Reader = reader i.limit i.chained (phase_of i.state) (i.limit - (i.room - 6 * count)) i.turns i.held in
    let few : i.turns ≤ most_turns = (rw between at c.self.invariant.2.at).2 in (
      known.there.0,
      subst (λ r. TakesPushes count counts r c.args.piece.now after known.there.0) c.self.view_is
          (reader_takes_pushes i.limit i.room i.turns count counts i.chained c.in-Between.field-0 c.args.piece.now known.there.0
          c.self.invariant.0 c.if-piece-self.true few known.within known.there.1 known.there.2 known.there.3 (phase_of i.state) i.held
          (ap phase_of between) none),
    )
