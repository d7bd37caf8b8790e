use Rattle.capture_file.specs.declared.reader.Got.TheVariants as got
use Rattle.capture_file.specs.declared.Step.TheVariants.{Turns}
use Rattle.stream_play.proofs.Forms.{form_after}
use Rattle.stream_play.proofs.play.hand_push.Goals as goal

pub returns-in-Some-clause-form : goal.returns-in-Some-clause-form
returns-in-Some-clause-form g c =
    (form_after g.P.Player.has_slots c.args.reader.now c.args.rest.now 5
    (got.Step (Turns c.in-Some.count)) c.take_turns.new.self c.in-Some.ensures.some.exact c.requires.form).0
