use Rattle.field_stream.proofs.Moving.{moved_none}
use Rattle.field_stream.proofs.stream.make_room.Goals as goal

pub returns-else-as_slice-clause-moves : goal.returns-else-as_slice-clause-moves
returns-else-as_slice-clause-moves g c = moved_none _ _
