use Rattle.std.proofs.Common.{◌<◌, ◌+◌, ◌*◌, ℕ, length, drop, subst, sym, arith}
use Rattle.machine_model.specs.Paths.{AreApart, span}
use Rattle.risc_listing.proofs.Spans.{no_span}
use Rattle.risc_asm.proofs.Apart.{apart_back, apart_on}
use Rattle.risc_asm.proofs.programs.are_apart.Goals as goal

pub returns-then-not-is_span : goal.returns-then-not-is_span
returns-then-not-is_span c =
    let spans = c.args.spans.now in
    let n = c.loop-number.number in
    let inside : n < length spans = subst (λ end. n < end) c.len-number-end.ensures c.loop-number-test.true in
    let at = c.at-at.ensures no_span in
    let words = c.words_of-words.ensures no_span in
    let s = span c.at-at.result c.words_of-words.result.now in (
      λ no. absurd cc,
      λ all. (let on =
          apart_on spans n s inside (λ i. record { at = at i; words = words i }) c.loop-number.from (c.loop-number.invariant.forth all) in
          let yes = c.is_span.ensures.1 (on.0, on.1) in let no = c.if-not-is_span.true in absurd cc),
    )

pub loop-number-preserved : goal.loop-number-preserved
loop-number-preserved c =
    let spans = c.args.spans.now in
    let n = c.loop-number.number in
    let inside : n < length spans = subst (λ end. n < end) c.len-number-end.ensures c.loop-number-test.true in
    let at = c.at-at.ensures no_span in
    let words = c.words_of-words.ensures no_span in
    let s = span c.at-at.result c.words_of-words.result.now in
    let both = c.is_span.ensures.0 c.if-not-is_span.false in
    let ends = both.1.ends in
    let from = c.from.ensures in
    let rest = drop (n + 1) spans in
    record {
      low = omega arith;
      forth =
          λ all. subst (λ (at : ℕ). AreApart (at + 4 * length c.words_of-words.result.now + 1) rest) (sym from)
          (apart_on spans n s inside (λ i. record { at = at i; words = words i }) c.loop-number.from (c.loop-number.invariant.forth all)).2;
      back =
          λ later. c.loop-number.invariant.back
          (apart_back spans n s inside (λ i. record { at = at i; words = words i }) c.loop-number.from both.0 both.1
          (subst (λ (at : ℕ). AreApart (at + 4 * length c.words_of-words.result.now + 1) rest) from later));
    }
