use Rattle.std.proofs.lemmas.Result.{err_from_is_err_and}
use Rattle.field_stream.specs.Lines.{line_pushes}
use Rattle.field_stream.proofs.Moving.{broken_within, moved_filled}
use Rattle.field_stream.proofs.stream.put_line.Goals as goal

pub returns-in_err-make_room-clause-moves : goal.returns-in_err-make_room-clause-moves
returns-in_err-make_room-clause-moves g c =
    let p = err_from_is_err_and c.from_residual.result c.from_residual.ensures.1 in
    rw p.1 (broken_within (line_pushes c.args.line) _ _ _ c.in_err-make_room.ensures.moves)

pub returns-clause-moves : goal.returns-clause-moves
returns-clause-moves g c =
    moved_filled (line_pushes c.args.line) _ _ _ _ _ c.in_ok-make_room.ensures.moves c.line.ensures.value
