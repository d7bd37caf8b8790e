-- Bytes with room for so many.
use Rattle.std.specs.Prelude.{ℕ, List}

pub record Bounds : Type 0 where
  pub bytes : List ℕ
  pub room : ℕ
