use Rattle.std.proofs.Common.{◌∙◌, ◌+◌, ◌-◌, ℕ, false, map, refl, subst}
use Rattle.std.specs.List.{range_with_len}
use Rattle.picture_model.specs.Plans.{vbi_strip}
use Rattle.field_compile.proofs.Appending.{IsLeft}
use Rattle.field_compile.proofs.Lines.{fewer_lines, some_left}
use Rattle.vbi_compile.proofs.VbiLines.{vbi_lines_from}
use Rattle.vbi_compile.proofs.push_lines.Goals as goal

pub loop-line-preserved : goal.loop-line-preserved
loop-line-preserved c =
    let d = c.args.frame.now in
    let field = c.args.field in
    let old = c.args.out.now.items in
    let out = c.loop-line.out.items in
    let end = c.desc.result.now.vbi_lines in
    let at = c.loop-line.line in
    let all = vbi_lines_from d field 0 d.vbi_lines in
    fewer_lines d old out c.push_pieces.new.out.items (vbi_strip d field at)
    (map (vbi_strip d field) (range_with_len (at + 1) (end - (at + 1)))) all false c.as_slice.result.now
    (subst (λ (n : ℕ). IsLeft old out (vbi_lines_from d field at n) all) (some_left end at c.loop-line-test.true) c.loop-line.invariant)
    refl
    (c.as_slice.ensures ∙ c.in_ok-pieces.ensures.plan)
    c.push_pieces.ensures.kept c.in_ok-push_pieces.ensures.words
