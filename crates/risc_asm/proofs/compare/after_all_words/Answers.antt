use Rattle.std.proofs.Common.{◌≡◌, ◌∙◌, ◌++◌, ◌^◌, ◌≤◌, Bool, List, ℕ, ap, length, subst, sym, arith}
use Rattle.std.specs.List.{All, flat_map}
use Rattle.machine_model.specs.Paths.{Span, end_of}
use Rattle.risc_listing.specs.Listings.{all_word_lines, base_line, entry_line, lines_by, span_lines, word_lines}
use Rattle.risc_listing.proofs.Spans.{spans_end}
use Rattle.risc_text.proofs.OneSpan.{words_of_one}
use Rattle.risc_asm.specs.Verdicts.{WithoutLines}
use Rattle.risc_asm.proofs.compare.after_all_words.Goals as goal

pub after_base-requires : goal.after_base-requires
after_base-requires c =
    let by_base = sym c.begins_at_base.ensures ∙ c.if-begins_at_base.true in
    let all = words_of_one c.args.program.now c.base.ensures.made by_base in
    let ends = all.ends in
    let base = c.base.ensures.value in
    let words = ap length c.words.ensures.value in
    omega arith

pub returns-then-begins_at_base-clause-value : goal.returns-then-begins_at_base-clause-value
returns-then-begins_at_base-clause-value c =
    let program = c.args.program.now in
    let by_base = sym c.begins_at_base.ensures ∙ c.if-begins_at_base.true in
    let base = c.base.ensures.value in
    let words = c.words.ensures.value in
    let same : base_line c.base.result ++ word_lines c.base.result 0 c.words.result.now ≡ all_word_lines program =
    (λ i. base_line (base i) ++ word_lines (base i) 0 (words i)) ∙ ap (λ (by_base : Bool). lines_by by_base program) (sym by_base)
    in
    subst (λ (lines : List ℕ). WithoutLines lines c.args.text.now c.after_base.result) same c.after_base.ensures

pub after_entry-requires : goal.after_entry-requires
after_entry-requires c =
    subst (λ (spans : List Span). All (λ s. end_of s ≤ 2 ^ 32) spans) (sym c.spans.ensures.value)
    (spans_end 0 c.args.program.now.spans c.spans.ensures.made.spans)

pub returns-else-begins_at_base-clause-value : goal.returns-else-begins_at_base-clause-value
returns-else-begins_at_base-clause-value c =
    let program = c.args.program.now in
    let by_spans = sym c.begins_at_base.ensures ∙ c.if-begins_at_base.false in
    let base = c.base-else-begins_at_base.ensures.value in
    let spans = c.spans.ensures.value in
    let same : flat_map span_lines c.spans.result.now ++ entry_line c.base-else-begins_at_base.result ≡ all_word_lines program =
    (λ i. flat_map span_lines (spans i) ++ entry_line (base i)) ∙ ap (λ (by_base : Bool). lines_by by_base program) (sym by_spans)
    in
    subst (λ (lines : List ℕ). WithoutLines lines c.args.text.now c.after_entry.result) same c.after_entry.ensures
