use Rattle.std.proofs.Common.{arith, sym, subst}
use Rattle.std.specs.Str.{IsUtf8}
use Rattle.risc_listing.proofs.Hexadecimal.{space_and_pairs, space_and_address-IsUtf8}
use Rattle.risc_listing.proofs.digits.space_and_address.Goals as goal

pub returns-clause-digits : goal.returns-clause-digits
returns-clause-digits c = cc (space_and_pairs c.args.n (omega arith))

pub returns-clause-text : goal.returns-clause-text
returns-clause-text c = subst IsUtf8 (sym (returns-clause-digits c)) (space_and_address-IsUtf8 c.args.n (omega arith))
