use Rattle.std.proofs.Common.{◌≡◌, ◌++◌, ◌∙◌, ◌+◌, ◌-◌, ◌<◌, ℕ, List, sym, ap, subst, arith}
use Rattle.capture_desc.specs.declared.desc.Desc.{Desc}
use Rattle.picture_model.specs.Described.{is_both, picture_row, rows_of}
use Rattle.picture_model.specs.Plans.{row_strip}
use Rattle.picture_model.specs.Programs.{line_instrs, words_of}
use Rattle.picture_model.proofs.Each.{Each}
use Rattle.picture_model.proofs.Sections.{rows_below}
use Rattle.field_compile.proofs.Appending.{IsLeft, all_left, begins_then, fewer_left, none_left}
use Rattle.field_compile.proofs.Lines.{all_rows, rows_from, rows_instrs, some_left}
use Rattle.field_compile.proofs.push_rows.Goals as goal

pub loop-number-init : goal.loop-number-init
loop-number-init c =
    let d = c.args.frame.now in
    let old = c.args.out.now.items in
    let all = rows_of d c.args.field in
    let rows = sym (all_rows d c.args.field c.rows_of-number-end.result c.rows_of-number-end.ensures.value) in
    record {
      left = subst (λ (rs : List ℕ). IsLeft old old (rows_instrs d rs) (rows_instrs d all)) rows (all_left old (rows_instrs d all));
      below = subst (Each (λ row. row < d.height)) rows (rows_below d c.args.field);
      spans = c.in_ok-spans.ensures.spans;
      description = c.in_ok-spans.ensures.description;
    }

pub returns-in_err-push_row-clause-kept : goal.returns-in_err-push_row-clause-kept
returns-in_err-push_row-clause-kept c =
    begins_then c.args.out.now.items c.loop-number.out.items c.push_row.new.out.items c.loop-number.invariant.left.kept
    c.push_row.ensures.kept

pub loop-number-preserved : goal.loop-number-preserved
loop-number-preserved c =
    let d = c.args.frame.now in
    let field = c.args.field in
    let old = c.args.out.now.items in
    let out = c.loop-number.out.items in
    let new = c.push_row.new.out.items in
    let end = c.rows_of-number-end.result in
    let at = c.loop-number.number in
    let all = rows_instrs d (rows_of d field) in
    let row = picture_row (is_both d.fields) field at in
    let same : c.picture_row-row.result ≡ row =
    c.picture_row-row.ensures ∙ ap (λ (e : Desc). picture_row (is_both e.fields) field at) c.desc.ensures.value in
    let more = some_left end at c.loop-number-test.true in
    record {
      left = fewer_left old out new (line_instrs d (row_strip d row)) (rows_instrs d (rows_from d field (at + 1) (end - (at + 1)))) all
          (subst (λ (n : ℕ). IsLeft old out (rows_instrs d (rows_from d field at n)) all) more c.loop-number.invariant.left)
          c.push_row.ensures.kept
          (subst (λ (r : ℕ). new ≡ out ++ words_of (line_instrs d (row_strip d r))) same c.in_ok-push_row.ensures.words);
      below = (subst (λ (n : ℕ). Each (λ row. row < d.height) (rows_from d field at n)) more c.loop-number.invariant.below).1;
      spans = c.push_row.ensures.spans;
      description = c.loop-number.invariant.description;
    }

pub returns-clause-words : goal.returns-clause-words
returns-clause-words c =
    let d = c.args.frame.now in
    let field = c.args.field in
    let at = c.loop-number.number in
    let end = c.rows_of-number-end.result in
    let behind = c.loop-number-test.false in
    let none : end - at ≡ 0 = omega arith in
    none_left c.args.out.now.items c.loop-number.out.items (rows_instrs d (rows_from d field at (end - at)))
    (rows_instrs d (rows_of d field)) c.loop-number.invariant.left
    (ap (λ (n : ℕ). rows_instrs d (rows_from d field at n)) none)
