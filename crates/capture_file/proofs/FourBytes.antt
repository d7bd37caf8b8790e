-- Four bytes and the number that they are.
use Rattle.std.proofs.Common.{◌≡◌, ℕ, zero, suc, ◌^◌, ◌<◌, List, [], ◌∷◌, refl, arith}
use Rattle.std.specs.Int.{w32, from_le_bytes}
use Rattle.std.proofs.lemmas.Nat.{le_bytes_4}
use Rattle.byteorder.specs.Endian.{little_number, little_bytes}
use Rattle.capture_file.proofs.Chunks.{IsBytes}

pub number_low : (a b c d : ℕ) (rest : List ℕ) → IsBytes (a ∷ b ∷ c ∷ d ∷ rest) → little_number 4 (a ∷ b ∷ c ∷ d ∷ []) < 2 ^ 32
number_low a b c d rest fits = omega (arith, fits 0, fits 1, fits 2, fits 3)

-- four bytes are those of their number
pub four_back : (a b c d : ℕ) (rest : List ℕ) → IsBytes (a ∷ b ∷ c ∷ d ∷ rest) →
    little_bytes 4 (little_number 4 (a ∷ b ∷ c ∷ d ∷ [])) ≡ a ∷ b ∷ c ∷ d ∷ []
four_back a b c d rest fits =
    let front : List ℕ = a ∷ b ∷ c ∷ d ∷ [] in
    let word : little_number 4 front ≡ from_le_bytes w32 front = omega arith in
    le_bytes_4 front (little_number 4 front) refl (four_fit a b c d rest fits) word
  where
    four_fit : (a b c d : ℕ) (rest : List ℕ) → IsBytes (a ∷ b ∷ c ∷ d ∷ rest) → IsBytes (a ∷ b ∷ c ∷ d ∷ [])
    four_fit a b c d rest fits zero = fits 0
    four_fit a b c d rest fits (suc zero) = fits 1
    four_fit a b c d rest fits (suc (suc zero)) = fits 2
    four_fit a b c d rest fits (suc (suc (suc zero))) = fits 3
    four_fit a b c d rest fits (suc (suc (suc (suc i)))) = omega arith
