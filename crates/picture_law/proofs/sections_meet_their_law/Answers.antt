use Rattle.picture_law.proofs.Laws.{holds_section, ends_section, uses_picture, paints_picture, grants_places}
use Rattle.picture_law.proofs.sections_meet_their_law.Goals as goal

pub returns-clause-holds : goal.returns-clause-holds
returns-clause-holds c = holds_section

pub returns-clause-ends : goal.returns-clause-ends
returns-clause-ends c = ends_section

pub returns-clause-uses : goal.returns-clause-uses
returns-clause-uses c = uses_picture

pub returns-clause-paints : goal.returns-clause-paints
returns-clause-paints c = paints_picture

pub returns-clause-grants : goal.returns-clause-grants
returns-clause-grants c = grants_places
