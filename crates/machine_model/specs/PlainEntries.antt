-- Plain entries, pushed to a queue one after the other with turns behind each.
use Rattle.std.specs.Prelude.{◌≡◌, ℕ, ◌+◌, ◌≤◌, List, [], ◌∷◌, ◌++◌, replicate}
use Rattle.fifo_model.specs.declared.Entry.{Entry}
use Rattle.fifo_model.specs.declared.Queue.{Queue}
use Rattle.fifo_model.specs.Queues.{lane_bytes}
use Rattle.machine_model.specs.Steps.{Push, Step, Turn}

-- four valid pixel bytes within a line
abbrev pub plain_entry : ℕ → Entry
plain_entry dword = record { status = 0; dword = dword }

-- each with its DWORD, and the number of turns behind it
abbrev pub plain_steps : Queue → List (ℕ × ℕ) → List Step
plain_steps q [] = []
plain_steps q (entry ∷ entries) = (Push q (plain_entry entry.0) ∷ replicate entry.1 Turn) ++ plain_steps q entries

-- their bytes, the lowest of each DWORD first
abbrev pub dwords_of : List (ℕ × ℕ) → List ℕ
dwords_of [] = []
dwords_of (entry ∷ entries) = lane_bytes entry.0 ++ dwords_of entries

-- the turns behind them, in all
abbrev pub turns_behind : List (ℕ × ℕ) → ℕ
turns_behind [] = 0
turns_behind (entry ∷ entries) = entry.1 + turns_behind entries

abbrev pub HaveTurns : List (ℕ × ℕ) → Type 0
HaveTurns [] = Unit {0}
HaveTurns (entry ∷ entries) = (1 ≤ entry.1) × HaveTurns entries

-- entries of these DWORDs, one behind the other, with so many turns in all, and at least one behind each
pub record ArePlain (bytes : List ℕ) (sum : ℕ) (entries : List (ℕ × ℕ)) : Type 0 where
  pub dwords : dwords_of entries ≡ bytes
  pub turns : turns_behind entries ≡ sum
  pub each : HaveTurns entries
