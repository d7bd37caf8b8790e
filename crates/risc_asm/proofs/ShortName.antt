-- Where a space is after `write`, the name ends.
use Rattle.std.proofs.Common.{◌≡◌, ℕ, ◌≤◌, List, [], ◌∷◌, length, Some, refl, arith}
use Rattle.std.specs.Prelude.{slice_index}
use Rattle.risc_text.specs.declared.Name.TheVariants as names
use Rattle.risc_text.specs.Readers.{write_name}

pub short_name : (text : List ℕ) → 1 ≤ length text → slice_index text 0 ≡ 32 → write_name text ≡ Some (names.Write, text)
unfolding write_name
short_name [] some space = absurd (omega arith)
short_name (byte ∷ rest) some space = rw space refl
