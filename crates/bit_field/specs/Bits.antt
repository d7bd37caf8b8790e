-- Fields of a word, by quotient and remainder.
use Rattle.std.specs.Prelude.{ℕ, ◌+◌, ◌-◌, ◌*◌, ◌/◌, ◌%◌, ◌^◌, ◌≤◌, ◌⊎◌}

-- the number in `width` bits of a word, from bit `low` on
abbrev pub bits : ℕ → ℕ → ℕ → ℕ
bits low width word = word / 2 ^ low % 2 ^ width

-- the word with another number in these bits
abbrev pub with_bits : ℕ → ℕ → ℕ → ℕ → ℕ
with_bits low width word value = word - bits low width word * 2 ^ low + value * 2 ^ low

-- at least one bit, and all of them in a word of 32 bits
abbrev pub IsField : ℕ → ℕ → Type 0
IsField low width = (1 ≤ width) × (low + width ≤ 32)

-- two fields have no bit in common
abbrev pub IsApart : ℕ → ℕ → ℕ → ℕ → Type 0
IsApart low width other_low other_width = (low + width ≤ other_low) ⊎ (other_low + other_width ≤ low)
