-- By computation.
use Rattle.std.proofs.Common.{refl}
use Rattle.std.specs.Fmt.{char_count, digits, padded_integral}
use Rattle.check_model.proofs.laws.worked_lines_differ.Goals as goal

pub returns-clause-write_c : goal.returns-clause-write_c
unfolding char_count digits padded_integral
returns-clause-write_c c = refl

pub returns-clause-lanes : goal.returns-clause-lanes
unfolding char_count digits padded_integral
returns-clause-lanes c = refl

pub returns-clause-no_code : goal.returns-clause-no_code
unfolding char_count digits padded_integral
returns-clause-no_code c = refl

pub returns-clause-code : goal.returns-clause-code
unfolding char_count digits padded_integral
returns-clause-code c = refl

pub returns-clause-place : goal.returns-clause-place
unfolding char_count digits padded_integral
returns-clause-place c = refl

pub returns-clause-taken : goal.returns-clause-taken
unfolding char_count digits padded_integral
returns-clause-taken c = refl

pub returns-clause-two_sols : goal.returns-clause-two_sols
unfolding char_count digits padded_integral
returns-clause-two_sols c = refl

pub returns-clause-no_sol : goal.returns-clause-no_sol
unfolding char_count digits padded_integral
returns-clause-no_sol c = refl

pub returns-clause-long : goal.returns-clause-long
unfolding char_count digits padded_integral
returns-clause-long c = refl

pub returns-clause-no_eol : goal.returns-clause-no_eol
unfolding char_count digits padded_integral
returns-clause-no_eol c = refl

pub returns-clause-early : goal.returns-clause-early
unfolding char_count digits padded_integral
returns-clause-early c = refl
