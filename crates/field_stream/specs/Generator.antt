-- The generator: a number, of which each byte that is drawn makes the next.
use Rattle.std.specs.Prelude.{◌≡◌, ℕ, zero, suc, ◌+◌, ◌*◌, ◌%◌, ◌-◌, ◌<◌, List, [], ◌∷◌, ◌++◌, length, replicate, slice_index}

abbrev pub first_number : ℕ → ℕ
first_number seed = seed % 65537

abbrev pub next : ℕ → ℕ
next number = (75 * number + 74) % 65537

-- so many bytes that are drawn, in order, and the number after them
abbrev pub drawn : ℕ → ℕ → List ℕ
drawn number zero = []
drawn number (suc count) = next number % 256 ∷ drawn (next number) count

abbrev pub number_after : ℕ → ℕ → ℕ
number_after number zero = number
number_after number (suc count) = number_after (next number) count

-- the lanes of an entry of which so many are valid: the others aren't drawn
abbrev pub lanes : ℕ → ℕ → List ℕ
lanes number valid = drawn number valid ++ replicate (4 - valid) 255

-- some bytes that are drawn from a number on
abbrev pub IsDrawn : ℕ → List ℕ → Type 0
IsDrawn first bytes = (k : ℕ) → k < length bytes → slice_index bytes k ≡ number_after first (k + 1) % 256
