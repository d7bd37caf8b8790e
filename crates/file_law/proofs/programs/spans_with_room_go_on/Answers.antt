use Rattle.file_law.proofs.FreshSpans.{spans_go_on}
use Rattle.file_law.proofs.programs.spans_with_room_go_on.Goals as goal

pub returns : goal.returns
returns c = spans_go_on
