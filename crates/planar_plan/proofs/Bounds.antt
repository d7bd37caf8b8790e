-- How large products get.
use Rattle.std.proofs.Common.{ℕ, zero, suc, ◌+◌, ◌*◌, ◌^◌, ◌≤◌, arith}
use Rattle.std.proofs.lemmas.Nat.{mul-le}
use Rattle.picture_model.specs.Described.{lines_bytes}

pub lines_few : (lines most step bytes : ℕ) → lines ≤ most → step ≤ 2 ^ 32 → lines_bytes lines step bytes ≤ most * 2 ^ 32 + bytes
lines_few zero most step bytes few small = omega arith
lines_few (suc more) most step bytes few small =
    let all = mul-le more step most (2 ^ 32) (omega arith) small in omega arith

pub ruleset products = mul-le

pub fewer_grains : (n m size : ℕ) → n ≤ m → n * size ≤ m * size
fewer_grains n m size fewer = mul-le n size m size fewer (omega arith)
