use Rattle.field_law.proofs.Laws.{shows_picture}
use Rattle.field_law.proofs.signal_shows_the_picture.Goals as goal

pub returns : goal.returns
returns c = shows_picture
