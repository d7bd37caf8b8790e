use Rattle.std.proofs.Common.{◌≡◌, ◌<◌, ◌+◌, ◌∙◌, ◌||◌, Bool, true, false, length, drop, ap, refl, subst, sym, arith}
use Rattle.machine_model.specs.Paths.{is_there, span, word_among, stands_in}
use Rattle.risc_listing.proofs.Spans.{no_span}
use Rattle.risc_asm.proofs.Apart.{there_end, there_on}
use Rattle.risc_asm.proofs.programs.has_word.Goals as goal

pub returns-then-stands_in : goal.returns-then-stands_in
returns-then-stands_in c =
    let spans = c.args.spans.now in
    let n = c.loop-number.number in
    let address = c.args.address in
    let inside : n < length spans = subst (λ end. n < end) c.len-number-end.ensures c.loop-number-test.true in
    let at = c.at.ensures no_span in
    let words = c.words_of.ensures no_span in
    let s = span c.at.result c.words_of.result.now in
    let stands : stands_in s address ≡ true = sym (c.stands_in.ensures c.words_of.result.now refl) ∙ c.if-stands_in.true in
    sym (c.loop-number.invariant ∙ there_on spans n s inside (λ i. record { at = at i; words = words i }) address
    ∙ ap (λ (stands : Bool). stands || is_there (word_among (drop (n + 1) spans) address)) stands)

pub loop-number-preserved : goal.loop-number-preserved
loop-number-preserved c =
    let spans = c.args.spans.now in
    let n = c.loop-number.number in
    let address = c.args.address in
    let inside : n < length spans = subst (λ end. n < end) c.len-number-end.ensures c.loop-number-test.true in
    let at = c.at.ensures no_span in
    let words = c.words_of.ensures no_span in
    let s = span c.at.result c.words_of.result.now in
    let stands : stands_in s address ≡ false = sym (c.stands_in.ensures c.words_of.result.now refl) ∙ c.if-stands_in.false in
    c.loop-number.invariant ∙ there_on spans n s inside (λ i. record { at = at i; words = words i }) address
    ∙ ap (λ (stands : Bool). stands || is_there (word_among (drop (n + 1) spans) address)) stands

pub returns : goal.returns
returns c =
    sym (c.loop-number.invariant ∙ there_end c.args.spans.now c.loop-number.number c.args.address (omega (arith, c.len-number-end.ensures)))
