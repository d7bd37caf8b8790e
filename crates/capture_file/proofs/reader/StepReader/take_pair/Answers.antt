use Rattle.std.proofs.Common.{arith, [], ◌∷◌, ◌≡◌, ◌≤◌, ◌+◌, ◌-◌, ◌∙◌, ap, subst}
use Rattle.fifo_model.specs.Queues.{lane_bytes}
use Rattle.capture_file.specs.Pairs.{NoPair, TakesPairs}
use Rattle.capture_file.specs.Readers.{HoldsAt, Reader, phase_of}
use Rattle.capture_file.specs.Streams.{most_turns}
use Rattle.capture_file.proofs.OtherRecords.{in_any_case}
use Rattle.capture_file.proofs.PairRuns.{one_copied, reader_takes}
use Rattle.capture_file.proofs.Resumed.{reader}
use Rattle.capture_file.proofs.reader.StepReader.take_pair.Goals as goal

pub returns-clause-taken : goal.returns-clause-taken
returns-clause-taken c =
    let i = c.self.inside in
    let between = c.in-Between.is in
    let holds : HoldsAt i.state i.held = c.self.invariant.1 in
    let none : i.held ≡ [] = rw between at holds in
    let known = c.in_ok-queue.ensures in
    let queue = c.in_ok-queue.queue in
    let dword = c.in_ok-queue.entry.dword in
    let turns = c.in_ok-queue.turns in
    let pair = known.pair in
    let long = pair.whole in
    let few : i.turns ≤ most_turns = (rw between at c.self.invariant.2.at).2 in
    let after : Reader = reader i.limit i.chained (phase_of i.state) (i.limit - (i.room - 11)) (i.turns + turns) i.held in
    subst (λ r. TakesPairs queue 1 turns (lane_bytes dword) r c.args.piece.now after ((dword, turns) ∷ [])) c.self.view_is
    (reader_takes i.limit i.room i.turns 1 turns i.chained c.in-Between.field-0 c.args.piece.now (lane_bytes dword) queue
    ((dword, turns) ∷ []) c.self.invariant.0 (omega (arith, c.if-piece-self.false)) few known.left (omega (arith, long))
    (one_copied queue _ c.args.piece.now dword turns pair) (phase_of i.state) i.held (ap phase_of between) none)

pub returns-in_err-queue-clause-all : goal.returns-in_err-queue-clause-all
returns-in_err-queue-clause-all c =
    let i = c.self.inside in
    let few : i.turns ≤ most_turns = (rw c.in-Between.is at c.self.invariant.2.at).2 in
    let same : most_turns - (most_turns - i.turns) ≡ i.turns = omega (arith, few) in
    let before : most_turns - (most_turns - i.turns) ≡ c.args.self.now.turns = same ∙ ap (λ (r : Reader). r.turns) c.self.view_is in
    in_any_case c.from_residual.result
    (λ between queue. subst (λ n. NoPair queue n c.args.piece.now) before (c.in_err-queue.ensures.none queue))
