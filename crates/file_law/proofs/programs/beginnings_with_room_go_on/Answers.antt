use Rattle.file_law.proofs.FreshChunks.{beginning_goes_on}
use Rattle.file_law.proofs.programs.beginnings_with_room_go_on.Goals as goal

pub returns : goal.returns
returns c = beginning_goes_on
