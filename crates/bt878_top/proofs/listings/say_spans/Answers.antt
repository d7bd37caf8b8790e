use Rattle.std.proofs.Common.{◌<◌, ◌++◌, length, ap, subst, arith}
use Rattle.std.proofs.lemmas.Result.{err_from_is_err_and}
use Rattle.machine_model.specs.Paths.{span}
use Rattle.risc_listing.specs.Listings.{span_lines}
use Rattle.risc_listing.proofs.Spans.{no_span}
use Rattle.bt878_top.proofs.Saying.{piece_breaks_off, piece_said, said_both, spans_split}
use Rattle.bt878_top.proofs.listings.say_spans.Goals as goal

pub say_span-requires : goal.say_span-requires
say_span-requires g c =
    let spans = c.args.spans.now in
    let n = c.loop-number.number in
    let inside : n < length spans = subst (λ end. n < end) c.len-number-end.ensures c.loop-number-test.true in
    let ends = c.requires n no_span inside in
    let at = c.at.ensures no_span in
    let words = ap length (c.words_of.ensures no_span) in
    omega arith

pub returns-in_err-say_span-clause-says : goal.returns-in_err-say_span-clause-says
returns-in_err-say_span-clause-says g c =
    let p = err_from_is_err_and c.from_residual.result c.from_residual.ensures.1 in
    let n = c.loop-number.number in
    let s = span c.at.result c.words_of.result.now in
    let inside : n < length c.args.spans.now = subst (λ end. n < end) c.len-number-end.ensures c.loop-number-test.true in
    let at = c.at.ensures no_span in
    let words = c.words_of.ensures no_span in
    let split = spans_split c.args.spans.now n s inside (λ i. record { at = at i; words = words i }) in
    let before = c.loop-number.invariant in
    rw p.1 (piece_breaks_off before.0 (span_lines s) _ _ _ _ _ _ split before.1 before.2 c.in_err-say_span.ensures.says)

pub loop-number-preserved : goal.loop-number-preserved
loop-number-preserved g c =
    let see = g.D.Desk.seen in
    let n = c.loop-number.number in
    let s = span c.at.result c.words_of.result.now in
    let inside : n < length c.args.spans.now = subst (λ end. n < end) c.len-number-end.ensures c.loop-number-test.true in
    let at = c.at.ensures no_span in
    let words = c.words_of.ensures no_span in
    let split = spans_split c.args.spans.now n s inside (λ i. record { at = at i; words = words i }) in
    let before = c.loop-number.invariant in
    let said = piece_said before.0 (span_lines s) _ _ _ _ _ _ split before.1 before.2 c.in_ok-say_span.ensures.says in (
      before.0 ++ span_lines s,
      said.0,
      said.1,
      said_both before.0 (span_lines s) (see c.args.desk.now) (see c.loop-number.desk)
          (see c.say_span.new.desk) before.3 c.in_ok-say_span.ensures.counts,
    )
