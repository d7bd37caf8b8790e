use Rattle.picture_model.proofs.Limit.{sections_few}
use Rattle.picture_model.proofs.FaultlessGeometry.{IsFrame-IsRight}
use Rattle.picture_model.proofs.Sections.{sections_as_long}
use Rattle.picture_model.proofs.laws.sections_are_as_long_anywhere.Goals as goal

pub returns-clause-few : goal.returns-clause-few
returns-clause-few c = λ d at back is frame. sections_few d at back is (IsFrame-IsRight d is frame)

pub returns-clause-same : goal.returns-clause-same
returns-clause-same c = sections_as_long
