use Rattle.std.proofs.Common.{◌≡◌, ◌∙◌, ◌++◌, List, ℕ, ap, subst}
use Rattle.risc_listing.specs.Listings.{span_line, word_lines}
use Rattle.risc_asm.specs.Verdicts.{Differs}
use Rattle.risc_asm.proofs.Agreeing.{first_differs}
use Rattle.risc_asm.proofs.Matching.{from_first}
use Rattle.risc_asm.proofs.compare.after_span.Goals as goal

pub returns-in-Ok : goal.returns-in-Ok
returns-in-Ok c =
    let at = c.args.at in
    let piece_is : c.as_bytes.result.now ≡ span_line at =
    c.as_bytes.ensures.value ∙ c.as_str.ensures.value ∙ c.push_span.ensures
    ∙ ap (λ (list : List ℕ). list ++ span_line at) c.new-line.ensures in
    from_first (span_line at) at c.args.words.now c.args.text.now c.in-Ok.rest.now c.after_words.result
    (c.in-Ok.ensures ∙ ap (λ (list : List ℕ). list ++ c.in-Ok.rest.now) piece_is) c.after_words.ensures

pub returns-in-Err : goal.returns-in-Err
returns-in-Err c =
    let at = c.args.at in
    let piece_is : c.as_bytes.result.now ≡ span_line at =
    c.as_bytes.ensures.value ∙ c.as_str.ensures.value ∙ c.push_span.ensures
    ∙ ap (λ (list : List ℕ). list ++ span_line at) c.new-line.ensures in
    first_differs (span_line at) (word_lines at 0 c.args.words.now) c.args.text.now c.in-Err.left.now
    (subst (λ (list : List ℕ). Differs list c.args.text.now c.in-Err.left.now) piece_is c.in-Err.ensures)
