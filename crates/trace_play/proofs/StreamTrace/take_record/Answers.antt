use Rattle.std.proofs.Common.{◌+◌, drop, sym, ap, ◌∙◌}
use Rattle.capture_file.specs.Readers.{after_answer, resumed}
use Rattle.capture_file.proofs.Answered.{failed-ends}
use Rattle.trace_play.specs.Playing.{Playing}
use Rattle.trace_play.proofs.Records.{front_passed, front_step, none_left, playing_at}
use Rattle.trace_play.proofs.StreamTrace.take_record.Goals as goal

pub returns-in-Step-clause-text : goal.returns-in-Step-clause-text
returns-in-Step-clause-text g c =
    let t = c.self.inside in
    let took = c.take-used in
    let taken = c.take_step in
    front_step t.trace t.turns t.reader took.new.self t.stream c.as_bytes.result.now t.at took.result.0 took.result.1 c.args.self.now
    c.self.view_is c.as_bytes.ensures.bytes took.ensures.whole
    c.in-Step.step taken.new.self c.args.text.now.bytes taken.new.text.bytes c.in-Step.is c.requires.none taken.ensures.reader
    taken.ensures.bytes taken.ensures.text

pub returns-in-End-clause-text : goal.returns-in-End-clause-text
returns-in-End-clause-text g c =
    let t = c.self.inside in
    let took = c.take-used in
    front_passed t.trace t.turns t.reader took.new.self t.stream c.as_bytes.result.now t.at took.result.0 took.result.1 c.args.self.now
    c.self.view_is c.as_bytes.ensures.bytes took.ensures.whole
    c.args.text.now.bytes (ap (λ f. after_answer f (resumed took.new.self (drop (t.at + took.result.0) t.stream))) c.in-End.is)

pub returns-in-More-clause-text : goal.returns-in-More-clause-text
returns-in-More-clause-text g c =
    let t = c.self.inside in
    let took = c.take-used in
    front_passed t.trace t.turns t.reader took.new.self t.stream c.as_bytes.result.now t.at took.result.0 took.result.1 c.args.self.now
    c.self.view_is c.as_bytes.ensures.bytes took.ensures.whole
    c.args.text.now.bytes (ap (λ f. after_answer f (resumed took.new.self (drop (t.at + took.result.0) t.stream))) c.in-More.is)

pub returns-in-Bad-clause-text : goal.returns-in-Bad-clause-text
returns-in-Bad-clause-text g c =
    let t = c.self.inside in
    let took = c.take-used in
    let ends = failed-ends took.new.self c.in-Bad.field-0 (drop (t.at + took.result.0) t.stream) (rw c.in-Bad.is at took.ensures.stays) in
    front_passed t.trace t.turns t.reader took.new.self t.stream c.as_bytes.result.now t.at took.result.0 took.result.1 c.args.self.now
    c.self.view_is c.as_bytes.ensures.bytes took.ensures.whole
    c.args.text.now.bytes (ap (λ f. after_answer f (resumed took.new.self (drop (t.at + took.result.0) t.stream))) c.in-Bad.is ∙ sym ends)

pub returns-in-Bad-clause-none : goal.returns-in-Bad-clause-none
returns-in-Bad-clause-none g c _ =
    let t = c.self.inside in
    let after : Playing = playing_at t.trace t.turns c.take-used.new.self t.stream (t.at + c.take-used.result.0) in
    none_left after c.in-Bad.field-0 (ap (λ (p : Playing). p.turns) c.self.view_is ∙ c.requires.none)
    (failed-ends c.take-used.new.self c.in-Bad.field-0 after.bytes (rw c.in-Bad.is at c.take-used.ensures.stays))
