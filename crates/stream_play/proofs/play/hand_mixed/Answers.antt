use Rattle.std.proofs.Common.{[], ◌∷◌, ◌∙◌, ap}
use Rattle.std.proofs.lemmas.List.{take_rest}
use Rattle.fifo_model.specs.Queues.{lane_bytes}
use Rattle.capture_file.specs.declared.Step.TheVariants.{Push, Turns}
use Rattle.stream_play.proofs.PlainPairs.{pairs_form, pairs_handed}
use Rattle.stream_play.proofs.Playing.{handed_behind}
use Rattle.stream_play.proofs.play.hand_mixed.Goals as goal

pub loop-queue-preserved : goal.loop-queue-preserved
loop-queue-preserved g c =
    let act = g.P.Player.act in
    let known = c.loop-queue.invariant.handed in
    let queue = c.in-Some.queue in
    let dword = c.in-Some.entry.dword in
    let turns = c.in-Some.turns in
    let taken = c.in-Some.ensures.taken in
    let handed =
    pairs_handed act queue 1 turns (lane_bytes dword) c.loop-queue.player c.push_and_turns.new.self c.loop-queue.reader
    c.take_pair.new.self _ ((dword, turns) ∷ []) taken
    (c.push_and_turns.ensures ∙ ap (λ entry. act (Turns turns) (act (Push queue entry) c.loop-queue.player)) c.in-Some.ensures.plain) in
    record {
      handed =
          handed_behind act c.loop-queue.at 11 c.args.player.now c.args.reader.now c.loop-queue.reader c.take_pair.new.self
          c.args.piece.now _ c.loop-queue.player c.push_and_turns.new.self (take_rest c.args.piece.now c.loop-queue.at) known.0 known.1
          known.2 handed;
      form =
          pairs_form g.P.Player.has_slots queue 1 turns (lane_bytes dword) c.loop-queue.reader c.take_pair.new.self _
          ((dword, turns) ∷ []) taken c.loop-queue.invariant.form;
    }
