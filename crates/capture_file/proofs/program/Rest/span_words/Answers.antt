use Rattle.std.proofs.Common.{◌≡◌, ◌*◌, ◌≤◌, ◌∙◌, ap, arith, drop, length}
use Rattle.capture_file.proofs.SpansRead.{span_words_read}
use Rattle.capture_file.proofs.program.Rest.span_words.Goals as goal

pub returns-clause-value : goal.returns-clause-value
returns-clause-value c =
    let bytes = c.args.self.bytes.now in
    let same : 4 * c.from-long.result ≡ 4 * c.args.count = omega (arith, c.from-long.ensures) in
    let long : 4 * c.args.count ≤ length bytes = omega arith in
    span_words_read c.args.self.size c.args.count c.args.at bytes c.after.result.bytes.now c.args.spans.now c.begin.new.self
    c.push_words.new.spans long
    c.in_ok-begin.ensures.begun c.in_ok-push_words.ensures (c.after.ensures.bytes ∙ ap (λ n. drop n bytes) same)
