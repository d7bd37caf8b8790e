use Rattle.std.proofs.Common.{◌++◌, drop, refl, ap, ◌∙◌, arith, inr}
use Rattle.capture_file.specs.Readers.{resumed}
use Rattle.capture_file.specs.Streams.{steps_run}
use Rattle.trace_play.specs.Playing.{Playing, text_left, weight}
use Rattle.trace_play.proofs.Records.{at_most, lighter, turns_taken}
use Rattle.trace_play.proofs.StreamTrace.fill.Goals as goal

pub loop-self-preserved-then-self-gt0 : goal.loop-self-preserved-then-self-gt0
loop-self-preserved-then-self-gt0 g c =
    let t = c.self.inside in
    let made = c.turns-self-inside in
    let before : Playing = record { tracing = t.trace; turns = t.turns; reader = t.reader; bytes = drop t.at t.stream } in
    let later = steps_run (resumed t.reader (drop t.at t.stream)).steps in
    let room = c.loop-self-test.true in
    let size = c.len.ensures.value in
    let some = c.if-self-gt0.true in
    let fewer = made.ensures.more (omega (arith, room, size)) some in
    let weighs = ap weight c.self.view_is in
    let most = at_most c.loop-self.self c.args.self.now c.loop-self.invariant.less in
    record {
      text =
          turns_taken t.trace made.new.self c.loop-self.text.bytes made.new.text.bytes t.turns made.result later made.ensures.within
          made.ensures.state made.ensures.text
          ∙ ap (λ (p : Playing). c.loop-self.text.bytes ++ text_left p) c.self.view_is
          ∙ c.loop-self.invariant.text;
      less = inr (omega (arith, fewer, weighs, most));
    }

pub loop-self-smaller : goal.loop-self-smaller
loop-self-smaller g c = lighter c.loop-self.self c.take_front.new.self (c.if-not-take_front.ensures.less refl) c.take_front.ensures.few

pub loop-self-preserved : goal.loop-self-preserved
loop-self-preserved g c =
    let less = lighter c.loop-self.self c.take_front.new.self (c.if-not-take_front.ensures.less refl) c.take_front.ensures.few in
    let most = at_most c.loop-self.self c.args.self.now c.loop-self.invariant.less in
    record {
      text = c.take_front.ensures.text ∙ c.loop-self.invariant.text;
      less = inr (omega (arith, less, most));
    }
