use Rattle.std.proofs.Common.{arith}
use Rattle.capture_file.specs.Programs.{with_words, words_in}
use Rattle.capture_file.proofs.SpansRead.{words_pushed}
use Rattle.risc_verify.proofs.Cuts.{with_word-length}
use Rattle.capture_file.proofs.program.push_words.Goals as goal

pub loop-number-preserved : goal.loop-number-preserved
loop-number-preserved c =
    let some = c.loop-number.invariant.some in
    let len = with_word-length c.loop-number.spans c.number_from.result in
    record {
      words = rw c.in_ok-push.ensures.pushed
          (words_pushed c.loop-number.spans c.args.bytes.now c.args.count c.loop-number.number c.number_from.result
          (with_words c.args.spans.now (words_in c.args.count c.args.bytes.now))
          c.loop-number-test.true c.number_from.ensures c.loop-number.invariant.words);
      some = rw c.in_ok-push.ensures.pushed (omega (arith, some, len));
    }
