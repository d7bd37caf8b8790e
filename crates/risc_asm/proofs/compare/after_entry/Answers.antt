use Rattle.std.proofs.Common.{◌≡◌, ◌∙◌, ◌++◌, List, ℕ, ap, subst}
use Rattle.std.specs.List.{flat_map}
use Rattle.risc_listing.specs.Listings.{entry_line, span_lines}
use Rattle.risc_asm.specs.Verdicts.{WithoutLines}
use Rattle.risc_asm.proofs.Agreeing.{first_differs, then_lines}
use Rattle.risc_asm.proofs.compare.after_entry.Goals as goal

pub returns-in-Ok : goal.returns-in-Ok
returns-in-Ok c =
    let entry = c.args.entry in
    let piece_is : c.as_bytes.result.now ≡ entry_line entry =
    c.as_bytes.ensures.value ∙ c.as_str.ensures.value ∙ c.push_entry.ensures
    ∙ ap (λ (list : List ℕ). list ++ entry_line entry) c.new-line.ensures in
    then_lines (flat_map span_lines c.args.spans.now)
    (entry_line entry) c.args.text.now c.in-Ok.rest.now c.after_piece.result c.in-Ok.ensures
    (subst (λ (list : List ℕ). WithoutLines list c.in-Ok.rest.now c.after_piece.result) piece_is c.after_piece.ensures)

pub returns-in-Err : goal.returns-in-Err
returns-in-Err c =
    first_differs (flat_map span_lines c.args.spans.now) (entry_line c.args.entry) c.args.text.now c.in-Err.left.now c.in-Err.ensures
