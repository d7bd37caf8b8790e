-- Marks of words: the path came there with no target.
use Rattle.std.specs.Prelude.{◌≡◌, ℕ, Bool, false, IsTrue, List, Some, None, slice_index_or}
use Rattle.machine_model.specs.Paths.{RiscProgram, Place}
use Rattle.risc_verify.specs.Programs.{word_of}

-- a place at a word, with no target
pub record IsPlain (program : RiscProgram) (word : ℕ) (place : Place) : Type 0 where
  pub there : word_of program place.pc ≡ Some word
  pub none : place.target ≡ None

abbrev pub is_marked : List Bool → ℕ → Bool
is_marked marks word = slice_index_or marks word false

-- a place whose word is marked, with no target
pub record IsKnown (program : RiscProgram) (marks : List Bool) (place : Place) : Type 0 where
  pub word : ℕ
  pub marked : IsTrue (is_marked marks word)
  pub here : IsPlain program word place
