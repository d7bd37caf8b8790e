use Rattle.std.proofs.Common.{arith}
use Rattle.std.proofs.lemmas.List.{take_rest}
use Rattle.capture_file.specs.declared.reader.Got.TheVariants as got
use Rattle.capture_file.specs.declared.Step.TheVariants.{Push, Turns}
use Rattle.stream_play.proofs.Forms.{form_after}
use Rattle.stream_play.proofs.Playing.{GoesOn-after}
use Rattle.stream_play.proofs.PushedPairs.{pairs_behind, push_handed}
use Rattle.stream_play.proofs.play.hand_plain.Goals as goal

pub returns-in-Some-take_turns-clause-handed : goal.returns-in-Some-take_turns-clause-handed
returns-in-Some-take_turns-clause-handed g c =
    let same = c.in_default.ensures.none in
    let taken = rw same at c.in-Some-take_turns.ensures.some in
    (omega arith, (taken.within, taken.place, λ more. GoesOn-after _ _ _ _ _ _ (taken.whole more) c.turns.ensures))

pub hand_push-used-requires-clause-form : goal.hand_push-used-requires-clause-form
hand_push-used-requires-clause-form g c =
    (form_after g.P.Player.has_slots c.args.reader.now c.args.piece.now 6
    (got.Step (Push c.in-Some.queue c.in-Some.entry)) c.take_push.new.self c.in-Some.ensures.some.exact c.requires.form).0

pub hand_behind-requires-clause-within : goal.hand_behind-requires-clause-within
hand_behind-requires-clause-within g c =
    (push_handed g.P.Player.act c.args.player.now c.hand_push-used.new.player c.hand_push-used.new.player c.args.reader.now
    c.take_push.new.self
    c.hand_push-used.new.reader c.hand_push-used.new.reader c.args.piece.now _ c.in-Some.queue c.in-Some.entry c.hand_push-used.result
    (take_rest c.args.piece.now 6) c.in-Some.ensures.some c.hand_push-used.ensures.handed).0

pub returns-in-Some-clause-handed : goal.returns-in-Some-clause-handed
returns-in-Some-clause-handed g c = (
  omega arith,
  pairs_behind g.P.Player.act c.args.player.now c.hand_push-used.new.player c.hand_behind.new.player c.args.reader.now c.take_push.new.self
      c.hand_push-used.new.reader c.hand_behind.new.reader c.args.piece.now _ c.in-Some.queue c.in-Some.entry c.hand_push-used.result
      (take_rest c.args.piece.now 6) c.in-Some.ensures.some c.hand_push-used.ensures.handed c.hand_behind.result
      c.hand_behind.ensures.handed,
)

pub returns-in-Some-take_turns-clause-form : goal.returns-in-Some-take_turns-clause-form
returns-in-Some-take_turns-clause-form g c =
    let same = c.in_default.ensures.none in
    let taken = rw same at c.in-Some-take_turns.ensures.some in
    (form_after g.P.Player.has_slots c.args.reader.now c.args.piece.now 5
    (got.Step (Turns c.in-Some-take_turns.count)) c.take_turns.new.self taken.exact c.requires.form).0
