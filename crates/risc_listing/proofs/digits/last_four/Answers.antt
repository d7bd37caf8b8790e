use Rattle.std.proofs.Common.{◌≡◌, ◌/◌, ◌%◌, arith, sym, subst}
use Rattle.std.specs.Str.{IsUtf8}
use Rattle.risc_listing.proofs.Decimal.{last_four-IsUtf8}
use Rattle.risc_listing.proofs.digits.last_four.Goals as goal

pub returns-clause-digits : goal.returns-clause-digits
returns-clause-digits c =
    let thousands : c.args.n / 100 / 10 ≡ c.args.n / 1000 % 10 = omega (arith, c.requires) in
    let tens : c.args.n % 100 / 10 ≡ c.args.n / 10 % 10 = omega arith in
    let units : c.args.n % 100 % 10 ≡ c.args.n % 10 = omega arith in
    cc (thousands, tens, units)

pub returns-clause-text : goal.returns-clause-text
returns-clause-text c = subst IsUtf8 (sym (returns-clause-digits c)) (last_four-IsUtf8 c.args.n)
