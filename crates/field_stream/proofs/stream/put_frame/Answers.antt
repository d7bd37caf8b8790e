use Rattle.std.proofs.Common.{◌∙◌, sym, ap}
use Rattle.std.proofs.lemmas.Result.{err_from_is_err_and}
use Rattle.pixel_layout.specs.declared.Parity.TheVariants.{Top, Bottom}
use Rattle.capture_desc.specs.declared.desc.Desc.{Desc}
use Rattle.field_stream.specs.Pushes.{field_pushes, frame_pushes}
use Rattle.field_stream.proofs.Moving.{broken_as, broken_first, moves_as, moves_both}
use Rattle.field_stream.proofs.Making.{frame_both}
use Rattle.field_stream.proofs.stream.put_frame.Goals as goal

pub returns-in_err-put_field-in-Both-clause-moves : goal.returns-in_err-put_field-in-Both-clause-moves
returns-in_err-put_field-in-Both-clause-moves g c =
    let p = err_from_is_err_and c.from_residual.result c.from_residual.ensures.1 in
    let d = c.args.frame.now in
    let is = sym (ap (λ (d : Desc). d.fields) c.desc.ensures.value) ∙ c.in-Both.is in
    rw p.1 (broken_as _ (frame_pushes d) _ _ _ (frame_both d is)
    (broken_first (field_pushes d Top) (field_pushes d Bottom) _ _ _ c.in_err-put_field-in-Both.ensures.moves))

pub returns-in_ok-put_field-in-Both-clause-moves : goal.returns-in_ok-put_field-in-Both-clause-moves
returns-in_ok-put_field-in-Both-clause-moves g c =
    let d = c.args.frame.now in
    let is = sym (ap (λ (d : Desc). d.fields) c.desc.ensures.value) ∙ c.in-Both.is in
    moves_as _ (frame_pushes d) _ _ _ _ c.put_field-in-Both-2.result (frame_both d is)
    (moves_both (field_pushes d Top) (field_pushes d Bottom) _ _ _ _ _ _ c.put_field-in-Both-2.result
    c.in_ok-put_field-in-Both.ensures.moves c.put_field-in-Both-2.ensures.moves)
