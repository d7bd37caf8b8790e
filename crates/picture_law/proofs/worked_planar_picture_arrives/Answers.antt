use Rattle.picture_law.proofs.WorkedPlanar.{planar_signalled, planar_bounded}
use Rattle.picture_law.proofs.worked_planar_picture_arrives.Goals as goal

pub returns-clause-signalled : goal.returns-clause-signalled
returns-clause-signalled c = planar_signalled

pub returns-clause-in_time : goal.returns-clause-in_time
returns-clause-in_time c = planar_bounded
