use Rattle.field_law.proofs.TrailLaws.{trail_shows_picture, trail_shows_no_fault, trail_ends_with_closing, trail_is_bounded}
use Rattle.field_law.proofs.trail_shows_its_field.Goals as goal

pub returns-clause-shown : goal.returns-clause-shown
returns-clause-shown c = trail_shows_picture

pub returns-clause-quiet : goal.returns-clause-quiet
returns-clause-quiet c = trail_shows_no_fault

pub returns-clause-ended : goal.returns-clause-ended
returns-clause-ended c = trail_ends_with_closing

pub returns-clause-bounded : goal.returns-clause-bounded
returns-clause-bounded c = trail_is_bounded
