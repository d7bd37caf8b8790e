use Rattle.std.proofs.Common.{◌-◌, ◌++◌, ap, refl}
use Rattle.std.proofs.lemmas.Result.{err_from_is_err_and}
use Rattle.field_stream.specs.Pushes.{repeated}
use Rattle.field_stream.specs.Lines.{line_pushes}
use Rattle.field_stream.proofs.Moving.{broken_within, lines_as, moved_filled, moves_as, moves_both, repeated_some}
use Rattle.field_stream.proofs.stream.put_whole.Goals as goal

pub returns-in_err-make_room-clause-moves : goal.returns-in_err-make_room-clause-moves
returns-in_err-make_room-clause-moves g c =
    let p = err_from_is_err_and c.from_residual.result c.from_residual.ensures.1 in
    rw p.1 (broken_within (repeated c.args.count (line_pushes c.args.line)) _ _ _ c.in_err-make_room.ensures.moves)

pub returns-clause-moves : goal.returns-clause-moves
returns-clause-moves g c =
    let pushes = line_pushes c.args.line in
    let others = repeated (c.args.count - 1) pushes in
    let template = c.template-template in
    let copied =
    lines_as (c.args.count - 1) (c.args.count - 1) (line_pushes template.result.line) pushes template.new.self c.put_copies.new.draft
    (g.D.Desk.seen c.make_room.new.desk).told (g.D.Desk.seen c.put_copies.new.desk).told c.put_copies.result refl
    (ap line_pushes template.ensures.line) c.put_copies.ensures.moves in
    moves_as (pushes ++ others) (repeated c.args.count pushes) _ _ _ _ c.put_copies.result
    (repeated_some c.args.count pushes c.requires.some)
    (moves_both pushes others _ _ _ _ _ _ c.put_copies.result
    (moved_filled pushes _ _ _ _ _ c.in_ok-make_room.ensures.moves template.ensures.value) copied)
