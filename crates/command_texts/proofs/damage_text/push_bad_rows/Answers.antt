use Rattle.std.proofs.Common.{ℕ, List, ◌≡◌, ◌+◌, ◌++◌, ◌∙◌, drop, arith, [], ap, sym, append_assoc, append-nil, drop_of_length-le}
use Rattle.std.specs.List.{flat_map}
use Rattle.arrayvec.specs.ArrayString.{array_string_len}
use Rattle.picture_model.specs.Described.{field_height, both, picture_row, rows_of}
use Rattle.command_texts.specs.DamageTexts.{bad_line, bad_rows}
use Rattle.command_texts.proofs.MarkByMark.{from_bad_row, from_whole_row, no_marks}
use Rattle.command_texts.proofs.damage_text.push_bad_rows.Goals.{then-not-is_whole, else-not-is_whole}
use Rattle.command_texts.proofs.damage_text.push_bad_rows.Goals as goal

pub loop-number-preserved : goal.loop-number-preserved
loop-number-preserved c =
    let d = c.args.desc.now in
    let row = picture_row (both d) c.args.field in
    let n = field_height d c.args.field in
    let i = c.loop-number.number in
    let marks = c.args.marks.now in
    let lines = λ (rows : List ℕ). flat_map bad_line rows in
    let rest = bad_rows (drop (i + 1) (rows_of d c.args.field)) (drop (i + 1) marks) in
    let more = c.loop-number-test.true in
    elim c.if-not-is_whole.branch [
      | then-not-is_whole w ↦
          let at = from_bad_row row n i marks more c.requires.rows w.if-not-is_whole.true in
          let told : c.if-not-is_whole.text.bytes ≡ c.loop-number.text.bytes ++ bad_line (row i) =
          ap (λ t. t.bytes) w.text-is ∙ w.push_bad_row.ensures.bytes
          ∙ ap (λ told. c.loop-number.text.bytes ++ bad_line told) w.picture_row-row.ensures in
          record {
            bytes = ap (λ bytes. bytes ++ lines rest) told ∙ append_assoc c.loop-number.text.bytes (bad_line (row i)) (lines rest)
                ∙ ap (λ rows. c.loop-number.text.bytes ++ lines rows) (sym at) ∙ c.loop-number.invariant.bytes;
            long = omega (arith, ap (λ t. array_string_len t) w.text-is, w.push_bad_row.ensures.long, c.loop-number.invariant.long);
          }
      | else-not-is_whole w ↦
          let at = from_whole_row row n i marks more c.requires.rows w.if-not-is_whole.false in
          record {
            bytes = ap (λ t. t.bytes ++ lines rest) w.text-is
                ∙ ap (λ rows. c.loop-number.text.bytes ++ lines rows) (sym at) ∙ c.loop-number.invariant.bytes;
            long = omega (arith, ap (λ t. array_string_len t) w.text-is, c.loop-number.invariant.long);
          }
    ]

pub returns-clause-bytes : goal.returns-clause-bytes
returns-clause-bytes c =
    let rows = drop c.loop-number.number (rows_of c.args.desc.now c.args.field) in
    let over : bad_rows rows (drop c.loop-number.number c.args.marks.now) ≡ [] =
    ap (λ marks. bad_rows rows marks) (drop_of_length-le c.args.marks.now c.loop-number-test.false) ∙ no_marks rows in
    sym (append-nil c.loop-number.text.bytes)
    ∙ ap (λ told. c.loop-number.text.bytes ++ flat_map bad_line told) (sym over) ∙ c.loop-number.invariant.bytes
