-- The table of status codes, and the verdict on a front entry.
use Rattle.std.specs.Prelude.{◌≤◌, ℕ, ◌+◌, ◌-◌, min, Bool, true, false, List, [], ◌∷◌, if◌then◌else◌, ◌==◌, slice_index_or}
use Rattle.risc_word.specs.declared.Code.TheVariants.{Vre, Vro, Fm1, Fm3}
use Rattle.sync_status.specs.declared.StatusKind.{StatusKind}
use Rattle.sync_status.specs.declared.StatusKind.TheVariants.{Control, Start, Pixels, End, Reserved}
use Rattle.sync_status.specs.declared.Verdict.{Verdict}
use Rattle.sync_status.specs.declared.Verdict.TheVariants.{Take, Discard, Broken, Missing}

-- the kinds of the codes 0 to 15
abbrev pub kinds : List StatusKind
kinds =
    Pixels ∷ End 4 ∷ Start ∷ Reserved
    ∷ Control Vre ∷ End 1 ∷ Control Fm1 ∷ Reserved
    ∷ Reserved ∷ End 2 ∷ Reserved ∷ Reserved
    ∷ Control Vro ∷ End 3 ∷ Control Fm3 ∷ Reserved ∷ []

abbrev pub kind_of : ℕ → StatusKind
kind_of status = slice_index_or kinds status Reserved

-- how many lanes of an entry hold bytes
abbrev pub valid_lanes : StatusKind → ℕ
valid_lanes (Control _) = 0
valid_lanes Start = 4
valid_lanes Pixels = 4
valid_lanes (End count) = count
valid_lanes Reserved = 0

abbrev pub valid_bytes : ℕ → ℕ
valid_bytes status = valid_lanes (kind_of status)

abbrev pub is_control : StatusKind → Bool
is_control (Control _) = true
is_control _ = false

abbrev pub is_end : StatusKind → Bool
is_end (End _) = true
is_end _ = false

-- as many of the entry's bytes as the rest of the instruction asks for
abbrev pub taken_of : ℕ → ℕ → ℕ → Verdict
taken_of valid taken rest = Take (min rest (valid - taken))

-- the verdict within a line: the line start is not awaited any more
abbrev pub verdict_in_line : StatusKind → ℕ → ℕ → Verdict
verdict_in_line (Control _) taken rest = Broken
verdict_in_line Reserved taken rest = Discard
verdict_in_line Start taken rest = if taken == 0 then Missing else taken_of 4 taken rest
verdict_in_line Pixels taken rest = taken_of 4 taken rest
verdict_in_line (End count) taken rest = taken_of count taken rest

-- the verdict where the line start is awaited
abbrev pub verdict_at_start : StatusKind → ℕ → ℕ → Verdict
verdict_at_start (Control _) taken rest = Broken
verdict_at_start Start taken rest = if taken == 0 then taken_of 4 taken rest else Discard
verdict_at_start _ taken rest = Discard

-- the verdict on a front entry: its kind, whether a SOL is needed, the bytes taken of it already,
-- and the bytes that the instruction still asks for
abbrev pub verdict_on : StatusKind → Bool → ℕ → ℕ → Verdict
verdict_on kind true taken rest = verdict_at_start kind taken rest
verdict_on kind false taken rest = verdict_in_line kind taken rest

-- a verdict to take bytes takes at least one, no more than are left of the entry's valid bytes, and no
-- more than are asked for
abbrev pub TakesWithin : ℕ → ℕ → ℕ → Verdict → Type 0
TakesWithin valid taken rest (Take count) =
    (1 ≤ count) × (taken + count ≤ valid) × (count ≤ rest)
TakesWithin valid taken rest _ = Unit {0}
