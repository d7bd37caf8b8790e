use Rattle.std.proofs.Common.{◌≡◌, ◌∙◌, ◌++◌, ◌+◌, ◌*◌, List, ℕ, drop, sym, ap, arith}
use Rattle.risc_listing.specs.Listings.{word_lines}
use Rattle.risc_asm.proofs.Matching.{all, no_words, none_yet, on, stops}
use Rattle.risc_asm.proofs.compare.after_words.Goals as goal

pub loop-next-init : goal.loop-next-init
loop-next-init c = record { within = c.requires.within; matched = none_yet _ c.args.text.now }

pub returns-in-Err : goal.returns-in-Err
returns-in-Err c =
    let words = c.args.words.now in
    let base = c.args.base in
    let more = c.push_words-next.result in
    let piece = c.as_bytes.result.now in
    let later = word_lines (base + 4 * more) 0 (drop more words) in
    let left = word_lines (base + 4 * c.loop-next.next) 0 (drop c.loop-next.next words) in
    let lines_are : piece ++ later ≡ left =
    ap (λ (list : List ℕ). list ++ later) (c.as_bytes.ensures.value ∙ c.as_str.ensures.value) ∙ c.push_words-next.ensures.lines
    ∙ ap (λ (list : List ℕ). list ++ left) c.clear.ensures
    in
    stops _ left c.args.text.now c.loop-next.rest.now piece later c.in-Err.left.now c.loop-next.invariant.matched
    (sym lines_are) c.in-Err.ensures

pub loop-next-preserved : goal.loop-next-preserved
loop-next-preserved c =
    let words = c.args.words.now in
    let base = c.args.base in
    let more = c.push_words-next.result in
    let piece = c.as_bytes.result.now in
    let later = word_lines (base + 4 * more) 0 (drop more words) in
    let left = word_lines (base + 4 * c.loop-next.next) 0 (drop c.loop-next.next words) in
    let lines_are : piece ++ later ≡ left =
    ap (λ (list : List ℕ). list ++ later) (c.as_bytes.ensures.value ∙ c.as_str.ensures.value) ∙ c.push_words-next.ensures.lines
    ∙ ap (λ (list : List ℕ). list ++ left) c.clear.ensures
    in
    record {
      within = c.push_words-next.ensures.within.1;
      matched =
          on _ left c.args.text.now c.loop-next.rest.now piece later c.in-Ok.left.now c.loop-next.invariant.matched
          (sym lines_are) c.in-Ok.ensures;
    }

pub returns : goal.returns
returns c =
    all _ _ c.args.text.now c.loop-next.rest.now c.loop-next.invariant.matched (no_words _ c.loop-next.next c.args.words.now (omega arith))
