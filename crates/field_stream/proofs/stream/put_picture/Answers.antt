use Rattle.std.proofs.Common.{◌∙◌, ◌+◌, ap, arith}
use Rattle.std.proofs.lemmas.Result.{err_from_is_err_and}
use Rattle.capture_desc.specs.declared.desc.Desc.{Desc}
use Rattle.pixel_layout.specs.Layouts.{layout}
use Rattle.pixel_layout.specs.declared.Format.{Format}
use Rattle.picture_model.specs.Described.{field_height}
use Rattle.picture_model.specs.Programs.{data_code}
use Rattle.field_stream.specs.Pushes.{picture_line, repeated}
use Rattle.field_stream.proofs.Moving.{broken_within, lines_as, moves_more}
use Rattle.field_stream.proofs.stream.put_picture.Goals as goal

pub returns-in_err-put_mark-clause-moves : goal.returns-in_err-put_mark-clause-moves
returns-in_err-put_mark-clause-moves g c =
    let p = err_from_is_err_and c.from_residual.result c.from_residual.ensures.1 in
    let d = c.args.frame.now in
    let code = c.data_code.ensures ∙ ap data_code (c.is_planar.ensures ∙ ap (λ (f : Format). (layout f).planar) c.format.ensures.value) in
    rw p.1 (broken_within (repeated (d.skip_lines + field_height d c.args.field) (picture_line d)) _ _ _
    (rw code at c.in_err-put_mark.ensures.moves))

pub returns-clause-moves : goal.returns-clause-moves
returns-clause-moves g c =
    let d = c.args.frame.now in
    let code = c.data_code.ensures ∙ ap data_code (c.is_planar.ensures ∙ ap (λ (f : Format). (layout f).planar) c.format.ensures.value) in
    moves_more (repeated (d.skip_lines + field_height d c.args.field) (picture_line d)) _ _ _ _ _ _ c.put_lines.result
    (rw code at c.in_ok-put_mark.ensures.moves)
    (lines_as (c.from.result + c.rows_of.result) (d.skip_lines + field_height d c.args.field) _ _ _ _ _ _ c.put_lines.result
    (omega (
      arith,
      c.from.ensures,
      ap (λ (d : Desc). d.skip_lines) c.desc.ensures.value,
      c.rows_of.ensures.value,
    )) c.picture_line.ensures.pushes c.put_lines.ensures.moves)
