-- A path is without end, and yet so many of its places decide whether the program is sound.
use Rattle.std.specs.Prelude.{◌≡◌, ℕ, ◌+◌, ◌*◌, ◌<◌, length, None}
use Rattle.machine_model.specs.Paths.{RiscProgram, all_words, cause_at, path, IsSound}

-- so many places of the path, from the first on, are fine
abbrev pub AreFine : RiscProgram → ℕ → Type 0
AreFine program count = (k : ℕ) → k < count → cause_at program (path program k) ≡ None

-- twice the words and one place more: among them the path comes to a place again
abbrev pub enough_places : RiscProgram → ℕ
enough_places program = 2 * length (all_words program) + 1

-- a program is sound where that many places of its path are fine
abbrev pub PathsComeRound : Type 0
PathsComeRound = (program : RiscProgram) → AreFine program (enough_places program) → IsSound program
