use Rattle.std.proofs.Common.{◌+◌, ◌++◌, ◌∙◌, ap, length, drop, subst}
use Rattle.capture_file.specs.Readers.{Uses, Counts, after_answer, resumed}
use Rattle.stream_play.proofs.Forms.{form_after}
use Rattle.stream_play.proofs.Playing.{GoesOn-after}
use Rattle.stream_play.specs.Plays.{MayGive}
use Rattle.stream_play.proofs.play.hand_record.Goals as goal

pub returns-in-Step-clause-handed : goal.returns-in-Step-clause-handed
returns-in-Step-clause-handed g c =
    let e = c.take-used.ensures in
    let used = subst (λ a. Uses a c.take-used.result.0 (length c.args.piece.now)) c.in-Step.is e.used in
    let place = subst (λ a. Counts a (c.args.reader.now.place + c.take-used.result.0) c.take-used.new.self.place) c.in-Step.is e.place in (
      used.0,
      (
        used.1,
        place,
        λ more.
            GoesOn-after _ _ _ _ _ _
            (e.whole more
            ∙ ap (λ a. after_answer a (resumed c.take-used.new.self (drop c.take-used.result.0 c.args.piece.now ++ more))) c.in-Step.is)
            c.hand.ensures,
      ),
    )

pub hand-requires-clause-stands : goal.hand-requires-clause-stands
hand-requires-clause-stands g c =
    subst (MayGive g.P.Player.has_slots) c.in-Step.is
    (form_after g.P.Player.has_slots c.args.reader.now c.args.piece.now c.take-used.result.0 c.take-used.result.1 c.take-used.new.self
    c.take-used.ensures.exact c.requires.form).1

pub returns-in-Step-clause-form : goal.returns-in-Step-clause-form
returns-in-Step-clause-form g c =
    (form_after g.P.Player.has_slots c.args.reader.now c.args.piece.now c.take-used.result.0 c.take-used.result.1 c.take-used.new.self
    c.take-used.ensures.exact c.requires.form).0

pub returns-in-End-clause-form : goal.returns-in-End-clause-form
returns-in-End-clause-form g c =
    (form_after g.P.Player.has_slots c.args.reader.now c.args.piece.now c.take-used.result.0 c.take-used.result.1 c.take-used.new.self
    c.take-used.ensures.exact c.requires.form).0

pub returns-in-More-clause-form : goal.returns-in-More-clause-form
returns-in-More-clause-form g c =
    (form_after g.P.Player.has_slots c.args.reader.now c.args.piece.now c.take-used.result.0 c.take-used.result.1 c.take-used.new.self
    c.take-used.ensures.exact c.requires.form).0

pub returns-in-Bad-clause-form : goal.returns-in-Bad-clause-form
returns-in-Bad-clause-form g c =
    (form_after g.P.Player.has_slots c.args.reader.now c.args.piece.now c.take-used.result.0 c.take-used.result.1 c.take-used.new.self
    c.take-used.ensures.exact c.requires.form).0
