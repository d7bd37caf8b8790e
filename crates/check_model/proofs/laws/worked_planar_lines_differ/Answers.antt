-- By computation.
use Rattle.std.proofs.Common.{refl}
use Rattle.std.specs.Fmt.{char_count, digits, padded_integral}
use Rattle.check_model.proofs.laws.worked_planar_lines_differ.Goals as goal

pub returns-clause-vbi : goal.returns-clause-vbi
unfolding char_count digits padded_integral
returns-clause-vbi c = refl

pub returns-clause-skipped_vbi : goal.returns-clause-skipped_vbi
unfolding char_count digits padded_integral
returns-clause-skipped_vbi c = refl

pub returns-clause-skipped : goal.returns-clause-skipped
unfolding char_count digits padded_integral
returns-clause-skipped c = refl

pub returns-clause-third : goal.returns-clause-third
unfolding char_count digits padded_integral
returns-clause-third c = refl

pub returns-clause-chroma : goal.returns-clause-chroma
unfolding char_count digits padded_integral
returns-clause-chroma c = refl

pub returns-clause-short : goal.returns-clause-short
unfolding char_count digits padded_integral
returns-clause-short c = refl
