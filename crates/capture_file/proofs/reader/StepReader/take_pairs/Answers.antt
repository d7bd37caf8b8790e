use Rattle.std.proofs.Common.{arith, length, [], ◌≡◌, ◌≤◌, ◌+◌, ◌-◌, ◌*◌, ap, subst}
use Rattle.capture_file.specs.Pairs.{AreAll, TakesPairs}
use Rattle.capture_file.specs.Readers.{HoldsAt, Reader, phase_of}
use Rattle.capture_file.specs.Streams.{most_turns}
use Rattle.capture_file.proofs.PairRuns.{reader_takes}
use Rattle.capture_file.proofs.Resumed.{reader}
use Rattle.capture_file.proofs.reader.StepReader.take_pairs.Goals as goal

pub returns-clause-taken : goal.returns-clause-taken
returns-clause-taken c =
    let i = c.self.inside in
    let between = c.in-Between.is in
    let holds : HoldsAt i.state i.held = c.self.invariant.1 in
    let none : i.held ≡ [] = rw between at holds in
    let known = c.copy_pairs-count.ensures in
    let n = c.copy_pairs-count.result.0 in
    let sum = c.copy_pairs-count.result.1 in
    let after : Reader = reader i.limit i.chained (phase_of i.state) (i.limit - (i.room - 11 * n)) (i.turns + sum) i.held in
    let few : i.turns ≤ most_turns = (rw between at c.self.invariant.2.at).2 in (
      known.copied.0,
      subst
          (λ r. TakesPairs c.args.queue n sum c.copy_pairs-count.new.dwords r c.args.piece.now after known.copied.0)
          c.self.view_is
          (reader_takes i.limit i.room i.turns n sum i.chained c.in-Between.field-0 c.args.piece.now c.copy_pairs-count.new.dwords
          c.args.queue
          known.copied.0 c.self.invariant.0 c.if-piece-self.true few known.few known.within known.copied.1 (phase_of i.state) i.held
          (ap phase_of between) none),
    )

pub returns-clause-all : goal.returns-clause-all
returns-clause-all c = λ between.
    let i = c.self.inside in
    let few : i.turns ≤ most_turns = (rw c.in-Between.is at c.self.invariant.2.at).2 in
    let before : most_turns - (most_turns - i.turns) + c.copy_pairs-count.result.1 ≡ i.turns + c.copy_pairs-count.result.1 =
    omega (arith, few) in
    subst (λ n. AreAll c.args.queue n c.copy_pairs-count.result.0 c.args.piece.now (length c.copy_pairs-count.new.dwords)) before
    c.copy_pairs-count.ensures.all
