use Rattle.picture_law.proofs.Laws.{shows_picture}
use Rattle.picture_law.proofs.pictures_are_shown.Goals as goal

pub returns : goal.returns
returns c = shows_picture
