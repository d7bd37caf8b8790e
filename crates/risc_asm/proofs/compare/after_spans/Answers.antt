use Rattle.std.proofs.Common.{◌<◌, ◌+◌, length, drop, ap, subst, arith}
use Rattle.std.specs.List.{flat_map}
use Rattle.machine_model.specs.Paths.{span}
use Rattle.risc_listing.specs.Listings.{span_lines}
use Rattle.risc_listing.proofs.Spans.{no_span}
use Rattle.risc_asm.proofs.Matching.{all, next_span, no_spans, none_yet, on, stops}
use Rattle.risc_asm.proofs.compare.after_spans.Goals as goal

pub loop-number-init : goal.loop-number-init
loop-number-init c = none_yet _ c.args.text.now

pub after_span-requires : goal.after_span-requires
after_span-requires c =
    let n = c.loop-number.number in
    let inside : n < length c.args.spans.now = subst (λ end. n < end) c.len-number-end.ensures c.loop-number-test.true in
    let ends = c.requires n no_span inside in
    let at = c.at.ensures no_span in
    let words = ap length (c.words_of.ensures no_span) in
    omega arith

pub returns-in-Err : goal.returns-in-Err
returns-in-Err c =
    let spans = c.args.spans.now in
    let n = c.loop-number.number in
    let inside : n < length spans = subst (λ end. n < end) c.len-number-end.ensures c.loop-number-test.true in
    let at = c.at.ensures no_span in
    let words = c.words_of.ensures no_span in
    let s = span c.at.result c.words_of.result.now in
    stops _ (flat_map span_lines (drop n spans)) c.args.text.now c.loop-number.rest.now (span_lines s)
    (flat_map span_lines (drop (n + 1) spans)) c.in-Err.left.now c.loop-number.invariant
    (next_span spans n s inside (λ i. record { at = at i; words = words i })) c.in-Err.ensures

pub loop-number-preserved : goal.loop-number-preserved
loop-number-preserved c =
    let spans = c.args.spans.now in
    let n = c.loop-number.number in
    let inside : n < length spans = subst (λ end. n < end) c.len-number-end.ensures c.loop-number-test.true in
    let at = c.at.ensures no_span in
    let words = c.words_of.ensures no_span in
    let s = span c.at.result c.words_of.result.now in
    on _ (flat_map span_lines (drop n spans)) c.args.text.now c.loop-number.rest.now (span_lines s)
    (flat_map span_lines (drop (n + 1) spans)) c.in-Ok.left.now c.loop-number.invariant
    (next_span spans n s inside (λ i. record { at = at i; words = words i })) c.in-Ok.ensures

pub returns : goal.returns
returns c =
    all _ _ c.args.text.now c.loop-number.rest.now c.loop-number.invariant
    (no_spans c.args.spans.now c.loop-number.number (omega (arith, c.len-number-end.ensures)))
