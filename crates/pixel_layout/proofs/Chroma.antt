-- Rows whose chroma is kept go to rows of chroma of their own, none of which is higher than they are.
use Rattle.std.proofs.Common.{◌≡◌, ℕ, ◌+◌, ◌*◌, ◌/◌, ◌%◌, ◌≤◌, Bool, true, false, refl, ap, ◌∙◌, sym, arith}
use Rattle.std.proofs.Math.Nat.{div-le_self}
use Rattle.pixel_layout.specs.Layouts.{chroma_place, field_row}

pub place-within : (down : ℕ) (both : Bool) (row : ℕ) → chroma_place down both row ≤ row
place-within down true row = let part = div-le_self (row / 2) down in omega (arith, part)
place-within down false row = div-le_self row down

same_multiple : (v k k' : ℕ) → 1 ≤ v → k % v ≡ k' % v → k / v ≡ k' / v → k ≡ k'
same_multiple v k k' some rest same =
    let one : v * (k / v) + k % v ≡ k = omega arith in
    let two : v * (k' / v) + k' % v ≡ k' = omega arith in
    let e : v * (k / v) ≡ v * (k' / v) = ap (λ n. v * n) same in omega arith

-- rows of one field keep chroma from the same first row on
pub place-own : (down : ℕ) (both : Bool) (row other first first' : ℕ) → 1 ≤ down → field_row both row % down ≡ first →
    field_row both other % down ≡ first' →
    (both ≡ false → first ≡ first') → (both ≡ true → row % 2 ≡ other % 2 → first ≡ first') →
    chroma_place down both row ≡ chroma_place down both other → row ≡ other
place-own down true row other first first' some kept kept' one two same =
    let part : row / 2 / down ≡ other / 2 / down = omega arith in
    let parity : row % 2 ≡ other % 2 = omega arith in
    let half : row / 2 ≡ other / 2 = same_multiple down (row / 2) (other / 2) some (kept ∙ two refl parity ∙ sym kept') part in omega arith
place-own down false row other first first' some kept kept' one two same =
    same_multiple down row other some (kept ∙ one refl ∙ sym kept') same
