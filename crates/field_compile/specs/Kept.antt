-- What a call keeps of the words that were there before it.
use Rattle.std.specs.Prelude.{◌≡◌, ◌++◌, ℕ, List}

-- words begin with those that were there before, whatever was added
pub record BeginsWith (old words : List ℕ) : Type 0 where
  pub added : List ℕ
  pub split : words ≡ old ++ added
