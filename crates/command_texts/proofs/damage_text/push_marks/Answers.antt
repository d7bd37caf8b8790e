use Rattle.std.proofs.Common.{ℕ, List, ◌≡◌, ◌≤◌, ◌++◌, ◌∙◌, length, take, codes, min, ap, sym, arith, append_assoc}
use Rattle.std.proofs.lemmas.List.FromFn.{length-map-range_with_len}
use Rattle.std.specs.List.{flat_map}
use Rattle.picture_model.specs.Described.{both, field_height, picture_row, rows_of}
use Rattle.command_texts.specs.DamageTexts.{bad_line, bad_rows, field_name, whole_text}
use Rattle.command_texts.proofs.MarkByMark.{marks_of_rows}
use Rattle.command_texts.proofs.damage_text.push_marks.Goals as goal

-- the line of the counts is before the lines of the rows
one_text : (before name counts lines : List ℕ) →
    (before ++ (name ++ (codes " " ++ (counts ++ codes "\n")))) ++ lines
    ≡ before ++ (name ++ (codes " " ++ (counts ++ (codes "\n" ++ lines))))
one_text before name counts lines =
    append_assoc before (name ++ (codes " " ++ (counts ++ codes "\n"))) lines
    ∙ ap (λ text. before ++ text) (append_assoc name (codes " " ++ (counts ++ codes "\n")) lines
    ∙ ap (λ text. name ++ (codes " " ++ text)) (append_assoc counts (codes "\n") lines))

pub returns-clause-bytes : goal.returns-clause-bytes
returns-clause-bytes c =
    let field = c.args.field in
    let rows = rows_of c.args.desc.now field in
    let marks = c.args.marks.now in
    let height : length rows ≡ c.field_height.result =
    length-map-range_with_len (picture_row (both c.args.desc.now) field) 0 (field_height c.args.desc.now field)
    ∙ sym c.field_height.ensures in
    let few : min (length marks) (length rows) ≤ c.min-shown.result = omega (arith, c.min-shown.ensures, height) in
    let shown : bad_rows rows (take c.min-shown.result marks) ≡ bad_rows rows marks =
    marks_of_rows rows marks c.min-shown.result few in
    let counts = c.push_counts.new.text.bytes in
    c.push_bad_rows.ensures.bytes
    ∙ ap (λ bad. counts ++ flat_map bad_line bad) shown
    ∙ ap (λ text. text ++ flat_map bad_line (bad_rows rows marks)) c.push_counts.ensures.bytes
    ∙ one_text c.args.text.now.bytes (field_name field) (whole_text marks) (flat_map bad_line (bad_rows rows marks))
