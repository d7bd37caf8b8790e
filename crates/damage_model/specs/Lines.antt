-- When takings of a queue are a whole line.
use Rattle.std.specs.Prelude.{◌≡◌, ◌<◌, ◌≤◌, ◌⊎◌, ◌↔◌, ℕ, zero, suc, ◌+◌, Bool, true, false, ◌&&◌, ◌||◌, ◌==◌, List, [], ◌∷◌, if◌then◌else◌}
use Rattle.sync_status.specs.Statuses.{valid_bytes}
use Rattle.fifo_model.specs.declared.Entry.{Entry}
use Rattle.field_law.specs.Fields.{is_line}
use Rattle.damage_model.specs.Takings.{Taking}

-- takings go on at a byte of the entry at a place: each begins where the one before ended, with the next entry after the
-- last byte of one; the last of them takes the last byte of its entry
abbrev pub go_on : ℕ → ℕ → List Taking → Bool
go_on place taken [] = taken == 0
go_on place taken (t ∷ rest) =
    t.place == place && t.taken == taken
    && (if taken + t.count == valid_bytes t.entry.status then go_on (place + 1) 0 rest else go_on place (taken + t.count) rest)

abbrev pub follow_on : List Taking → Bool
follow_on [] = true
follow_on (t ∷ rest) = go_on t.place 0 (t ∷ rest)

-- the entries of which something is taken, each at its first byte
abbrev pub entries_taken : List Taking → List Entry
entries_taken [] = []
entries_taken (t ∷ rest) = if t.taken == 0 then t.entry ∷ entries_taken rest else entries_taken rest

-- takings of entries that follow one another, each taken whole, which are a line
abbrev pub are_line : List Taking → Bool
are_line ts = follow_on ts && is_line (entries_taken ts)

-- a queue of which nothing is taken isn't moved
abbrev pub no_takings : List Taking → Bool
no_takings [] = true
no_takings (t ∷ rest) = false

abbrev pub make_line : List Taking → Bool
make_line ts = no_takings ts || are_line ts

-- the same in one sentence: the entries of which a byte is taken follow one another among those that enter the queue,
-- each is taken whole, and they are a line

-- byte x of the entry at a place is taken
abbrev pub TakesByte : ℕ → ℕ → Taking → Type 0
TakesByte place x t = (t.place ≡ place) × (t.taken ≤ x) × (x < t.taken + t.count)

abbrev pub IsTaken : List Taking → ℕ → ℕ → Type 0
IsTaken [] place x = ⊥
IsTaken (t ∷ rest) place x = TakesByte place x t ⊎ IsTaken rest place x

-- so many entries from a place on, of those that enter the queue, and their valid bytes
abbrev pub entries_from : (ℕ → Entry) → ℕ → ℕ → List Entry
entries_from entry_at from zero = []
entries_from entry_at from (suc count) = entry_at from ∷ entries_from entry_at (from + 1) count

abbrev pub IsByteOf : (ℕ → Entry) → ℕ → ℕ → ℕ → ℕ → Type 0
IsByteOf entry_at from count place x =
    (from ≤ place) × (place < from + count) × (x < valid_bytes (entry_at place).status)

pub record IsWholeLine (entry_at : ℕ → Entry) (ts : List Taking) : Type 0 where
  pub from : ℕ
  pub count : ℕ
  pub bytes : (place x : ℕ) → IsTaken ts place x ↔ IsByteOf entry_at from count place x
  pub line : is_line (entries_from entry_at from count) ≡ true

-- byte y of the entry at another place is byte x of the entry at a place, or comes after it
abbrev pub IsFrom : ℕ → ℕ → ℕ → ℕ → Type 0
IsFrom place x other y = (place ≤ other) × (other ≡ place → x ≤ y)

-- takings of a queue, whose entries are at their places, in order: from a byte on, each takes some valid bytes of one
-- entry, none of which was taken before

abbrev pub AreInOrder : (ℕ → Entry) → ℕ → ℕ → List Taking → Type 0
AreInOrder entry_at place x [] = Unit {0}
AreInOrder entry_at place x (t ∷ rest) =
    IsFrom place x t.place t.taken × (t.entry ≡ entry_at t.place) × (0 < t.count) × (t.taken + t.count ≤ valid_bytes t.entry.status)
    × AreInOrder entry_at t.place (t.taken + t.count) rest
