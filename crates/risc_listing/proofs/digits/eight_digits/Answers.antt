use Rattle.std.proofs.Common.{◌≡◌, ◌/◌, ◌%◌, arith}
use Rattle.risc_listing.proofs.digits.eight_digits.Goals as goal

pub returns : goal.returns
returns c =
    let front = c.args.n / 10000 in
    let back = c.args.n % 10000 in
    let one : front / 100 / 10 ≡ front / 1000 % 10 = omega (arith, c.requires) in
    let three : front % 100 / 10 ≡ front / 10 % 10 = omega arith in
    let four : front % 100 % 10 ≡ front % 10 = omega arith in
    let five : back / 100 / 10 ≡ back / 1000 % 10 = omega arith in
    let seven : back % 100 / 10 ≡ back / 10 % 10 = omega arith in
    let eight : back % 100 % 10 ≡ back % 10 = omega arith in
    cc (one, three, four, five, seven, eight)
