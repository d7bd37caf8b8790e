use Rattle.std.proofs.Common.{[], ◌∷◌, ◌++◌}
use Rattle.std.proofs.lemmas.Result.{err_from_is_err_and}
use Rattle.picture_model.specs.Described.{vbi_skip}
use Rattle.picture_model.specs.Programs.{vertical}
use Rattle.field_stream.specs.Pushes.{Mark, picture_pushes, vbi_pushes}
use Rattle.field_stream.proofs.Moving.{broken_first, broken_second, moved_both, moves_both}
use Rattle.field_stream.proofs.stream.put_field.Goals as goal

pub returns-in_err-put_mark-clause-moves : goal.returns-in_err-put_mark-clause-moves
returns-in_err-put_mark-clause-moves g c =
    let p = err_from_is_err_and c.from_residual.result c.from_residual.ensures.1 in
    let d = c.args.frame.now in
    rw p.1 (broken_first (Mark (vertical c.args.field) ∷ [])
    (vbi_pushes d.vbi_lines (vbi_skip d c.args.field) d.vbi_bytes ++ picture_pushes d c.args.field) _ _ _
    (rw c.vertical.ensures at c.in_err-put_mark.ensures.moves))

pub returns-in_err-put_vbi-clause-moves : goal.returns-in_err-put_vbi-clause-moves
returns-in_err-put_vbi-clause-moves g c =
    let p = err_from_is_err_and c.from_residual-in_err-put_vbi.result c.from_residual-in_err-put_vbi.ensures.1 in
    let d = c.args.frame.now in
    rw p.1 (broken_second (Mark (vertical c.args.field) ∷ []) (vbi_pushes d.vbi_lines (vbi_skip d c.args.field) d.vbi_bytes)
    (picture_pushes d c.args.field) _ _ _ _ _
    (rw c.vertical.ensures at c.in_ok-put_mark.ensures.moves) c.in_err-put_vbi.ensures.moves)

pub returns-clause-moves : goal.returns-clause-moves
returns-clause-moves g c =
    let d = c.args.frame.now in
    moves_both (Mark (vertical c.args.field) ∷ vbi_pushes d.vbi_lines (vbi_skip d c.args.field) d.vbi_bytes)
    (picture_pushes d c.args.field) _ _ _ _ _ _ c.put_picture.result
    (moved_both (Mark (vertical c.args.field) ∷ []) (vbi_pushes d.vbi_lines (vbi_skip d c.args.field) d.vbi_bytes) _ _ _ _ _ _
    (rw c.vertical.ensures at c.in_ok-put_mark.ensures.moves) c.in_ok-put_vbi.ensures.moves)
    c.put_picture.ensures.moves
