use Rattle.std.proofs.Common.{◌≡◌, ◌/◌, ◌%◌, arith, sym, subst}
use Rattle.std.specs.Str.{IsUtf8}
use Rattle.risc_listing.proofs.Decimal.{three_digits, count_text-IsUtf8}
use Rattle.risc_listing.proofs.digits.three_places.Goals as goal

pub returns-clause-digits : goal.returns-clause-digits
returns-clause-digits c =
    let tens : c.args.n % 100 / 10 ≡ c.args.n / 10 % 10 = omega arith in
    let units : c.args.n % 100 % 10 ≡ c.args.n % 10 = omega arith in
    cc (three_digits c.args.n (omega arith) (omega arith), tens, units)

pub returns-clause-text : goal.returns-clause-text
returns-clause-text c = subst IsUtf8 (sym (returns-clause-digits c)) (count_text-IsUtf8 c.args.n (omega arith))
