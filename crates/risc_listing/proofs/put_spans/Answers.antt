use Rattle.std.proofs.Common.{◌<◌, length, ap, subst, arith}
use Rattle.machine_model.specs.Paths.{span}
use Rattle.risc_listing.proofs.Spans.{no_span, spans_more}
use Rattle.risc_listing.proofs.put_spans.Goals as goal

pub put_span-requires : goal.put_span-requires
put_span-requires c =
    let spans = c.args.spans.now in
    let n = c.loop-number.number in
    let inside : n < length spans = subst (λ end. n < end) c.len-number-end.ensures c.loop-number-test.true in
    let ends = c.requires n no_span inside in
    let at = c.at.ensures no_span in
    let words = ap length (c.words_of.ensures no_span) in
    omega arith

pub loop-number-preserved : goal.loop-number-preserved
loop-number-preserved c =
    let spans = c.args.spans.now in
    let n = c.loop-number.number in
    let inside : n < length spans = subst (λ end. n < end) c.len-number-end.ensures c.loop-number-test.true in
    let at = c.at.ensures no_span in
    let words = c.words_of.ensures no_span in
    spans_more spans n (span c.at.result c.words_of.result.now) _ _ _ inside
    (λ i. record { at = at i; words = words i }) c.in_ok-put_span.ensures c.loop-number.invariant
