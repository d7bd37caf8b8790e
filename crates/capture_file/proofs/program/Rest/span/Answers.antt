use Rattle.std.proofs.Common.{◌≡◌, ◌+◌, ◌*◌, arith}
use Rattle.capture_file.proofs.SpansRead.{span_passed}
use Rattle.capture_file.proofs.program.Rest.span.Goals as goal

pub returns-clause-value : goal.returns-clause-value
returns-clause-value c =
    let next : c.from.result + 4 * c.from-2.result + 1 ≡ c.in_ok-at.at + 4 * c.in_ok-count.count + 1 =
    omega (arith, c.from.ensures, c.from-2.ensures) in
    span_passed c.args.self.size c.in_ok-at.rest.size c.in_ok-count.rest.size c.args.above.from c.args.above.words c.in_ok-at.at
    c.in_ok-count.count (c.from.result + 4 * c.from-2.result + 1)
    c.args.self.bytes.now c.in_ok-at.rest.bytes.now c.in_ok-count.rest.bytes.now c.in_ok-rest.rest.bytes.now c.args.spans.now
    c.span_words.new.spans
    c.in_ok-at.ensures.rest.0 c.in_ok-count.ensures.rest.0 c.in_ok-at.ensures.value c.in_ok-count.ensures.value
    c.in_ok-rest.ensures.value next
