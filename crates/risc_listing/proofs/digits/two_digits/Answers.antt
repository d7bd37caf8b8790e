use Rattle.std.proofs.Common.{arith, sym, subst}
use Rattle.std.specs.Str.{IsUtf8}
use Rattle.risc_listing.proofs.Hexadecimal.{two_digits, two_digits-IsUtf8}
use Rattle.risc_listing.proofs.digits.two_digits.Goals as goal

pub returns-clause-digits : goal.returns-clause-digits
returns-clause-digits c = cc (two_digits c.args.n (omega arith) (omega arith))

pub returns-clause-text : goal.returns-clause-text
returns-clause-text c = subst IsUtf8 (sym (returns-clause-digits c)) (two_digits-IsUtf8 c.args.n (omega arith) (omega arith))
