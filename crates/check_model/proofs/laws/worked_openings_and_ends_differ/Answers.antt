-- By computation.
use Rattle.std.proofs.Common.{refl}
use Rattle.std.specs.Fmt.{char_count, digits, padded_integral}
use Rattle.check_model.proofs.laws.worked_openings_and_ends_differ.Goals as goal

pub returns-clause-none : goal.returns-clause-none
unfolding char_count digits padded_integral
returns-clause-none c = refl

pub returns-clause-no_resync : goal.returns-clause-no_resync
unfolding char_count digits padded_integral
returns-clause-no_resync c = refl

pub returns-clause-endless : goal.returns-clause-endless
unfolding char_count digits padded_integral
returns-clause-endless c = refl

pub returns-clause-endless_behind : goal.returns-clause-endless_behind
unfolding char_count digits padded_integral
returns-clause-endless_behind c = refl

pub returns-clause-behind : goal.returns-clause-behind
unfolding char_count digits padded_integral
returns-clause-behind c = refl

pub returns-clause-short : goal.returns-clause-short
unfolding char_count digits padded_integral
returns-clause-short c = refl
