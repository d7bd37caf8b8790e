use Rattle.std.proofs.Common.{arith, sym, subst}
use Rattle.std.specs.Str.{IsUtf8}
use Rattle.risc_listing.proofs.Hexadecimal.{pairs_and_space, address_and_space-IsUtf8}
use Rattle.risc_listing.proofs.digits.address_and_space.Goals as goal

pub returns-clause-digits : goal.returns-clause-digits
returns-clause-digits c = cc (pairs_and_space c.args.n (omega arith))

pub returns-clause-text : goal.returns-clause-text
returns-clause-text c = subst IsUtf8 (sym (returns-clause-digits c)) (address_and_space-IsUtf8 c.args.n (omega arith))
