use Rattle.std.proofs.Common.{arith, sym, subst}
use Rattle.std.specs.Str.{IsUtf8}
use Rattle.risc_listing.proofs.Decimal.{seven_spelled, count_text-IsUtf8}
use Rattle.risc_listing.proofs.digits.seven_places.Goals as goal

pub returns-clause-digits : goal.returns-clause-digits
returns-clause-digits c = seven_spelled c.args.n c.eight_digits-d.result c.eight_digits-d.ensures c.requires.low c.requires.high

pub returns-clause-text : goal.returns-clause-text
returns-clause-text c = subst IsUtf8 (sym (returns-clause-digits c)) (count_text-IsUtf8 c.args.n (omega arith))
