use Rattle.std.proofs.Common.{ℕ, ◌+◌, ◌∙◌, [], ◌∷◌, sym, ap, ap₂, arith}
use Rattle.std.proofs.lemmas.Result.{err_from_is_err_and}
use Rattle.capture_desc.specs.declared.desc.Desc.{Desc}
use Rattle.picture_model.specs.Described.{vbi_skip}
use Rattle.picture_model.proofs.Limit.{vbi_skip_few}
use Rattle.field_stream.proofs.Framed.{vbi_lines_range}
use Rattle.field_stream.specs.Pushes.{Mark, packed_line, repeated, vbi_pushes}
use Rattle.risc_word.specs.declared.Code.TheVariants.{Fm1}
use Rattle.field_stream.proofs.Moving.{lines_as, moves_as, moves_both, vbi_none, vbi_some, vbi_broken}
use Rattle.field_stream.proofs.stream.put_vbi.Goals as goal

pub returns-then-count-eq0-clause-moves : goal.returns-then-count-eq0-clause-moves
returns-then-count-eq0-clause-moves g c =
    let lines = ap (λ (d : Desc). d.vbi_lines) c.desc.ensures.value in
    vbi_none _ (vbi_skip c.args.frame.now c.args.field) c.args.frame.now.vbi_bytes _ _ (omega (arith, lines, c.if-count-eq0.true))

pub returns-in_err-put_mark-clause-moves : goal.returns-in_err-put_mark-clause-moves
returns-in_err-put_mark-clause-moves g c =
    let p = err_from_is_err_and c.from_residual.result c.from_residual.ensures.1 in
    let lines = ap (λ (d : Desc). d.vbi_lines) c.desc.ensures.value in
    rw p.1 (vbi_broken c.args.frame.now.vbi_lines (vbi_skip c.args.frame.now c.args.field) c.args.frame.now.vbi_bytes _ _ _
    (omega (arith, lines, c.if-count-eq0.false)) c.in_err-put_mark.ensures.moves)

pub returns-clause-moves : goal.returns-clause-moves
returns-clause-moves g c =
    let d = c.args.frame.now in
    let skipped = vbi_skip d c.args.field in
    let lines = ap (λ (d : Desc). d.vbi_lines) c.desc.ensures.value in
    let passed = c.vbi_skip-skipped.ensures ∙ ap (λ (d : Desc). vbi_skip d c.args.field) c.desc-2.ensures.value in
    let count = ap₂ (λ (m n : ℕ). m + n) passed lines in
    let all = repeated (skipped + d.vbi_lines) (packed_line d.vbi_bytes) in
    moves_as (Mark Fm1 ∷ all) (vbi_pushes d.vbi_lines skipped d.vbi_bytes) _ _ _ _ c.put_lines.result
    (sym (vbi_some d.vbi_lines skipped d.vbi_bytes (omega (arith, lines, c.if-count-eq0.false))))
    (moves_both (Mark Fm1 ∷ []) all _ _ _ _ _ _ c.put_lines.result c.in_ok-put_mark.ensures.moves
    (lines_as _ _ _ _ _ _ _ _ c.put_lines.result count c.vbi_line.ensures.pushes c.put_lines.ensures.moves))

pub overflow_add-skipped : goal.overflow_add-skipped
overflow_add-skipped g c =
    let d = c.args.frame.now in
    let lines = ap (λ (d : Desc). d.vbi_lines) c.desc.ensures.value in
    let passed = c.vbi_skip-skipped.ensures ∙ ap (λ (d : Desc). vbi_skip d c.args.field) c.desc-2.ensures.value in
    omega (arith, lines, passed, vbi_skip_few d c.args.field c.desc.ensures.framed.formed, (vbi_lines_range d c.desc.ensures.framed).0)
