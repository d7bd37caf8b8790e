use Rattle.stream_play.proofs.LostPushes.{pushes_form, pushes_handed}
use Rattle.stream_play.proofs.play.hand_lost.Goals as goal

pub push_lost-requires-clause-counted : goal.push_lost-requires-clause-counted
push_lost-requires-clause-counted g c =
    let known = c.take_pushes-count.ensures.taken in (known.0, known.1.counted)

pub returns-clause-form : goal.returns-clause-form
returns-clause-form g c =
    let known = c.take_pushes-count.ensures.taken in
    pushes_form g.P.Player.has_slots _ _ c.args.reader.now _ _ known.0 known.1 c.requires.form

pub returns-clause-handed : goal.returns-clause-handed
returns-clause-handed g c =
    let known = c.take_pushes-count.ensures.taken in
    pushes_handed g.P.Player.act _ _ c.args.player.now c.push_lost.new.self c.args.reader.now _ _ known.0 known.1
    (c.push_lost.ensures known.0 known.1.counted)
