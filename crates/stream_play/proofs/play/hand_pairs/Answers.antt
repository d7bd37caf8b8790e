use Rattle.stream_play.proofs.PlainPairs.{are_run, pairs_handed}
use Rattle.stream_play.proofs.play.hand_pairs.Goals as goal

pub push_plain-requires-clause-plain : goal.push_plain-requires-clause-plain
push_plain-requires-clause-plain g c =
    let taken = c.take_pairs-count.ensures.taken in
    (taken.0, are_run c.args.queue _ _ _ _ _ taken.0 taken.1.copied)

pub returns-clause-handed : goal.returns-clause-handed
returns-clause-handed g c =
    let taken = c.take_pairs-count.ensures.taken in
    pairs_handed g.P.Player.act c.args.queue _ _ _ _ _ _ _ _ taken.0 taken.1
    (c.push_plain.ensures taken.0 (are_run c.args.queue _ _ _ _ _ taken.0 taken.1.copied))
