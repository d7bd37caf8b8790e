-- Bytes of a row and rows of chroma are numbers of 32 bits.
use Rattle.std.proofs.Common.{ℕ, ◌*◌, ◌/◌, ◌^◌, ◌<◌, ◌≤◌, arith}
use Rattle.std.proofs.Math.Nat.{mul-le-mul, div-le_self}

pub units_fit : (width pixels bytes : ℕ) → width ≤ 1024 → bytes ≤ 12 → width / pixels * bytes < 2 ^ 32
units_fit width pixels bytes w b =
    let few : width / pixels ≤ 1024 = omega (arith, div-le_self width pixels)
    in let m : width / pixels * bytes ≤ 1024 * 12 = mul-le-mul few b
    in omega arith

pub place_fits : (k v : ℕ) → k / v ≤ k
place_fits k v = div-le_self k v
