-- As much of what lines give as a program can have.
use Rattle.std.specs.Prelude.{◌≡◌, ℕ, suc, ◌+◌, ◌*◌, ◌-◌, ◌/◌, ◌^◌, Bool, ◌&&◌, ◌||◌, List, [], ◌∷◌, length, take, min, nat_le, nat_lt}
use Rattle.std.specs.Prelude.{if◌then◌else◌}
use Rattle.page_table.specs.Grants.{max_chunks}
use Rattle.machine_model.specs.Paths.{max_words}

-- a chunk at `from` or after it, apart from the words, which are from the base on up to `end`
abbrev pub follows : ℕ × ℕ → ℕ → ℕ → ℕ → Bool
follows chunk from base end =
    nat_le from chunk.0 && nat_lt chunk.0 (chunk.0 + chunk.1)
    && (nat_le (chunk.0 + chunk.1) base || nat_le end chunk.0)

-- how many chunks rise from the first on
unfoldable pub rising : ℕ → ℕ → ℕ → List (ℕ × ℕ) → ℕ
rising from base end [] = 0
rising from base end (chunk ∷ rest) =
    if follows chunk from base end then suc (rising (chunk.0 + chunk.1) base end rest) else 0

-- the first of the words and of the chunks, as many as a program from this base on can have
pub record IsWithinLimits (base : ℕ) (words : List ℕ) (chunks : List (ℕ × ℕ)) (some : List ℕ) (few : List (ℕ × ℕ)) : Type 0 where
  pub words_are : some ≡ take (min max_words ((2 ^ 32 - base) / 4)) words
  pub chunks_are : few ≡ take (min (rising 0 base (base + 4 * length some) chunks) max_chunks) chunks
