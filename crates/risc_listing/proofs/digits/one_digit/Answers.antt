use Rattle.std.proofs.Common.{arith, sym, subst}
use Rattle.std.specs.Str.{IsUtf8}
use Rattle.risc_listing.proofs.Hexadecimal.{one_digit, one_digit-IsUtf8}
use Rattle.risc_listing.proofs.digits.one_digit.Goals as goal

pub returns-clause-digits : goal.returns-clause-digits
returns-clause-digits c = cc (one_digit c.args.n (omega arith))

pub returns-clause-text : goal.returns-clause-text
returns-clause-text c = subst IsUtf8 (sym (returns-clause-digits c)) (one_digit-IsUtf8 c.args.n (omega arith))
