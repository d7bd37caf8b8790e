use Rattle.std.proofs.Common.{refl, ap, ◌∙◌}
use Rattle.capture_file.specs.declared.Step.TheVariants.{Push, Turns}
use Rattle.capture_file.specs.declared.reader.Got.TheVariants as got
use Rattle.trace_play.proofs.Records.{front_step, playing_at}
use Rattle.trace_play.proofs.StreamTrace.take_front.Goals as goal

pub returns-in-Some-clause-text : goal.returns-in-Some-clause-text
returns-in-Some-clause-text g c =
    let t = c.self.inside in
    let step = Push c.in-Some.queue c.in-Some.entry in
    let taken = c.take_step in
    front_step t.trace t.turns t.reader c.take_push.new.self t.stream c.as_bytes.result.now t.at 6
    (got.Step step) c.args.self.now c.self.view_is c.as_bytes.ensures.bytes c.in-Some.ensures.some.whole
    step taken.new.self c.args.text.now.bytes taken.new.text.bytes refl c.requires.none taken.ensures.reader taken.ensures.bytes
    taken.ensures.text

pub returns-in-Some-take_turns-clause-text : goal.returns-in-Some-take_turns-clause-text
returns-in-Some-take_turns-clause-text g c =
    let t = c.self.inside in
    let step = Turns c.in-Some-take_turns.count in
    let taken = c.take_step-in-Some-take_turns in
    front_step t.trace t.turns c.take_push.new.self c.take_turns.new.self t.stream c.as_bytes.result.now t.at 5
    (got.Step step) c.args.self.now
    (ap (λ r. playing_at t.trace t.turns r t.stream t.at) c.in_default.ensures.none ∙ c.self.view_is) c.as_bytes.ensures.bytes
    c.in-Some-take_turns.ensures.some.whole
    step taken.new.self c.args.text.now.bytes taken.new.text.bytes refl c.requires.none taken.ensures.reader taken.ensures.bytes
    taken.ensures.text
