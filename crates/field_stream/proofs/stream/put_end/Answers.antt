use Rattle.std.proofs.Common.{[], ◌∷◌, ◌∙◌, ap}
use Rattle.field_stream.specs.Drafts.{Drafted}
use Rattle.field_stream.proofs.Moving.{puts_last}
use Rattle.field_stream.proofs.stream.put_end.Goals as goal

pub returns-clause-puts : goal.returns-clause-puts
returns-clause-puts g c =
    puts_last c.args.draft.now c.make_room.new.draft (0 ∷ []) _ _ _ _ c.put.result c.in_ok-make_room.ensures.moves
    (c.as_slice.ensures.value ∙ ap (λ (d : Drafted). d.bytes) c.append.ensures) c.put.ensures.puts
