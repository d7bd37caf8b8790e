-- By computation.
use Rattle.std.proofs.Common.{refl}
use Rattle.std.specs.Fmt.{char_count, digits, padded_integral}
use Rattle.check_model.proofs.laws.worked_programs_are_shown.Goals as goal

pub returns-clause-compiled : goal.returns-clause-compiled
unfolding char_count digits padded_integral
returns-clause-compiled c = refl

pub returns-clause-planar : goal.returns-clause-planar
unfolding char_count digits padded_integral
returns-clause-planar c = refl

pub returns-clause-cut : goal.returns-clause-cut
unfolding char_count digits padded_integral
returns-clause-cut c = refl

pub returns-clause-jumps : goal.returns-clause-jumps
unfolding char_count digits padded_integral
returns-clause-jumps c = refl

pub returns-clause-next : goal.returns-clause-next
unfolding char_count digits padded_integral
returns-clause-next c = refl

pub returns-clause-apart : goal.returns-clause-apart
unfolding char_count digits padded_integral
returns-clause-apart c = refl

pub returns-clause-second : goal.returns-clause-second
unfolding char_count digits padded_integral
returns-clause-second c = refl
