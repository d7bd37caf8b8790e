use Rattle.chain_law.proofs.Shown.{live_shows_no_fault, live_shows_picture, live_tells_field}
use Rattle.chain_law.proofs.live_pictures_are_shown.Goals as goal

pub returns-clause-shown : goal.returns-clause-shown
returns-clause-shown c = live_shows_picture

pub returns-clause-quiet : goal.returns-clause-quiet
returns-clause-quiet c = live_shows_no_fault

pub returns-clause-signalled : goal.returns-clause-signalled
returns-clause-signalled c = live_tells_field
