use Rattle.std.proofs.Common.{◌≡◌, ◌<◌, ◌+◌, ◌*◌, ◌∙◌, true, false, length, ap, refl, subst, sym, arith}
use Rattle.std.specs.List.{list_any}
use Rattle.page_table.specs.Grants.{is_met}
use Rattle.machine_model.specs.Paths.{end_of, span}
use Rattle.risc_listing.proofs.Spans.{no_span}
use Rattle.risc_asm.proofs.Apart.{clear_back, clear_met, clear_on, shares_end}
use Rattle.risc_asm.proofs.programs.are_clear.Goals as goal

pub returns-then-meets : goal.returns-then-meets
returns-then-meets c =
    let spans = c.args.spans.now in
    let n = c.loop-number.number in
    let inside : n < length spans = subst (λ end. n < end) c.len-number-end.ensures c.loop-number-test.true in
    let at = c.at-at.ensures no_span in
    let words = c.words_of-words.ensures no_span in
    let s = span c.at-at.result c.words_of-words.result.now in
    let met : list_any (is_met s.at (end_of s)) c.args.grants.now ≡ true =
    sym (c.meets.ensures.met
    ∙ ap (λ from. list_any (is_met c.at-at.result (from + 4 * length c.words_of-words.result.now)) c.args.grants.now) c.from.ensures)
    ∙ c.if-meets.true
    in (
      λ no. absurd cc,
      λ all. absurd (clear_met spans n s inside (λ i. record { at = at i; words = words i }) c.args.grants.now met
          (c.loop-number.invariant.forth all)),
    )

pub loop-number-preserved : goal.loop-number-preserved
loop-number-preserved c =
    let spans = c.args.spans.now in
    let n = c.loop-number.number in
    let inside : n < length spans = subst (λ end. n < end) c.len-number-end.ensures c.loop-number-test.true in
    let at = c.at-at.ensures no_span in
    let words = c.words_of-words.ensures no_span in
    let s = span c.at-at.result c.words_of-words.result.now in
    let met : list_any (is_met s.at (end_of s)) c.args.grants.now ≡ false =
    sym (c.meets.ensures.met
    ∙ ap (λ from. list_any (is_met c.at-at.result (from + 4 * length c.words_of-words.result.now)) c.args.grants.now) c.from.ensures)
    ∙ c.if-meets.false
    in
    record {
      forth = λ all.
          clear_on spans n s inside (λ i. record { at = at i; words = words i }) c.args.grants.now (c.loop-number.invariant.forth all);
      back =
          λ later. c.loop-number.invariant.back
          (clear_back spans n s inside (λ i. record { at = at i; words = words i }) c.args.grants.now met later);
    }

pub returns : goal.returns
returns c = (
  λ yes.
      c.loop-number.invariant.back (λ k d h. shares_end c.args.spans.now c.loop-number.number _ (omega (arith, c.len-number-end.ensures))),
  λ all. refl,
)
