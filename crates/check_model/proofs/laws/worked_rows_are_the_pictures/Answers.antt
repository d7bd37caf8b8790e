-- By computation.
use Rattle.std.proofs.Common.{refl}
use Rattle.std.specs.Fmt.{char_count, digits, padded_integral}
use Rattle.check_model.proofs.laws.worked_rows_are_the_pictures.Goals as goal

pub returns-clause-shown : goal.returns-clause-shown
unfolding char_count digits padded_integral
returns-clause-shown c = refl

pub returns-clause-short : goal.returns-clause-short
unfolding char_count digits padded_integral
returns-clause-short c = refl
