-- The calls by which inputs are taken, and their order.
use Rattle.std.specs.Prelude.{◌≡◌, ℕ, ◌+◌, ◌-◌, ◌<◌, ◌≤◌, min, ◌⊎◌, ⊤, Bool, true, false, List, [], ◌∷◌, ◌++◌, length, take, Option, Some}
use Rattle.std.specs.Prelude.{None, Result, Ok, Err}
use Rattle.capture_desk.specs.declared.calls.Call.{Call}
use Rattle.capture_desk.specs.declared.calls.Call.TheVariants.{OpenIn, Read}
use Rattle.capture_desk.specs.Desks.{Inputs, Seen, Tells, is_missing, after_open}
use Rattle.command_texts.specs.declared.refusal.Refusal.{Refusal}
use Rattle.command_texts.specs.declared.refusal.Refusal.TheVariants.{ReadFault, NoMemory}
use Rattle.command_texts.specs.Answers.{TakesMemory}
use Rattle.command_steps.specs.Inputs.{Input, KeepsReads, OfInput, IsThereAndGood, StopsIn, StopsReading, apart}

-- the most bytes that one read asks for
abbrev pub piece : ℕ
piece = 65536

-- P holds of the calls that were made
abbrev pub Calls : (List Call → Type 0) → Seen → Seen → Type 0
Calls P old new = (calls : List Call) × P calls × Tells calls old.calls new.calls

-- ---- one input

-- a read behind the first `at` bytes asks for a piece, or for what is left up to one byte beyond the most; it comes only
-- where these first bytes may be read on
abbrev pub IsNextRead : (ℕ → Type 0) → ℕ → ℕ → ℕ → Type 0
IsNextRead MayGoOn most at size = (at ≤ most) × MayGoOn at × (size ≡ min piece (most + 1 - at))

-- reads behind the first `at` bytes, one after the other, up to one that fails or finds the end
abbrev pub AreReads : (ℕ → Type 0) → ℕ → ℕ → List Call → Type 0
AreReads MayGoOn most at [] = ⊤
AreReads MayGoOn most at (Read size None ∷ calls) = IsNextRead MayGoOn most at size × (calls ≡ [])
AreReads MayGoOn most at (Read size (Some n) ∷ calls) =
    IsNextRead MayGoOn most at size × (n ≡ 0 → calls ≡ []) × AreReads MayGoOn most (at + n) calls
AreReads MayGoOn most at (_ ∷ calls) = ⊥

-- the same, and they go on until one finds the end, or one byte beyond the most is read
abbrev pub AreAllReads : (ℕ → Type 0) → ℕ → ℕ → List Call → Type 0
AreAllReads MayGoOn most at [] = most < at
AreAllReads MayGoOn most at (Read size (Some n) ∷ calls) =
    IsNextRead MayGoOn most at size × (((n ≡ 0) × (calls ≡ [])) ⊎ ((0 < n) × AreAllReads MayGoOn most (at + n) calls))
AreAllReads MayGoOn most at (_ ∷ calls) = ⊥

-- an input is opened and then read, or it is not opened
abbrev pub IsTaking : List ℕ → ℕ → (List ℕ → Type 0) → Option Inputs → List Call → Type 0
IsTaking name most MayGoOn told [] = ⊤
IsTaking name most MayGoOn told (OpenIn other false ∷ calls) = (other ≡ name) × (calls ≡ [])
IsTaking name most MayGoOn told (OpenIn other true ∷ calls) =
    (other ≡ name) × AreReads (λ at. OfInput name told (λ bytes. MayGoOn (take at bytes))) most 0 calls
IsTaking name most MayGoOn told (_ ∷ calls) = ⊥

-- it is opened and read through
abbrev pub IsWholeTaking : List ℕ → ℕ → (List ℕ → Type 0) → Option Inputs → List Call → Type 0
IsWholeTaking name most MayGoOn told (OpenIn other true ∷ calls) =
    (other ≡ name) × AreAllReads (λ at. OfInput name told (λ bytes. MayGoOn (take at bytes))) most 0 calls
IsWholeTaking name most MayGoOn told _ = ⊥

abbrev pub IsTakingOf : Input → Option Inputs → List Call → Type 0
IsTakingOf input told calls = IsTaking input.name input.judge.most input.judge.MayGoOn told calls

abbrev pub IsWholeTakingOf : Input → Option Inputs → List Call → Type 0
IsWholeTakingOf input told calls = IsWholeTaking input.name input.judge.most input.judge.MayGoOn told calls

-- it is there, and was opened
abbrev pub IsOpened : List ℕ → Option Inputs → List Call → Type 0
IsOpened name told (OpenIn other true ∷ calls) = is_missing name told ≡ false
IsOpened name told _ = ⊥

-- memory ran out at an input: one that is kept was opened, and another was not
abbrev pub IsShortAt : Bool → List ℕ → Option Inputs → List Call → Type 0
IsShortAt true name told calls = IsOpened name told calls
IsShortAt false name told calls = calls ≡ []

-- memory may run out for a refusal or its text only where an input is kept
abbrev pub MayCome : Refusal → Bool → Type 0
MayCome NoMemory kept = kept ≡ true
MayCome refusal kept = TakesMemory refusal → kept ≡ true

-- an input at which a refusal stopped was opened, unless it could not be read
abbrev pub EndsTaking : Refusal → Bool → List ℕ → Option Inputs → List Call → Type 0
EndsTaking ReadFault kept name told calls = ⊤
EndsTaking NoMemory kept name told calls = IsShortAt kept name told calls
EndsTaking refusal kept name told calls = IsOpened name told calls × MayCome refusal kept

-- ---- several inputs

-- all inputs were opened and read through, one after the other, each found good before the next
abbrev pub AreTaken : List Input → Option Inputs → List Call → Type 0
AreTaken [] told calls = calls ≡ []
AreTaken (input ∷ inputs) told calls =
    (first later : List Call) × (calls ≡ first ++ later) × IsWholeTakingOf input told first × IsThereAndGood input told
    × AreTaken inputs told later

-- or some were, and then comes the one at which a refusal stopped: it was opened and read so far, or not opened
abbrev pub AreTakenUpTo : List Input → Refusal → Option Inputs → List Call → Type 0
AreTakenUpTo [] refusal told calls = calls ≡ []
AreTakenUpTo (input ∷ inputs) refusal told calls =
    (IsTakingOf input told calls × EndsTaking refusal input.judge.kept input.name told calls)
    ⊎ ((first later : List Call) × (calls ≡ first ++ later) × IsWholeTakingOf input told first × IsThereAndGood input told
    × MayCome refusal input.judge.kept × AreTakenUpTo inputs refusal told later)

-- what comes of a step that only takes inputs: all of them are taken, or those before one that is refused
pub record Took (inputs : List Input) (old new : Seen) : Type 0 where
  pub told : apart new.told ≡ apart old.told
  pub reads : new.reads ≡ old.reads
  pub writes : new.writes ≡ old.writes
  pub calls : Calls (AreTaken inputs old.told.inputs) old new

pub record Stopped (inputs : List Input) (refusal : Refusal) (old new : Seen) : Type 0 where
  pub told : apart new.told ≡ apart old.told
  pub reads : KeepsReads refusal old new
  pub writes : new.writes ≡ old.writes
  pub why : StopsIn inputs refusal old new
  pub calls : Calls (AreTakenUpTo inputs refusal old.told.inputs) old new

abbrev pub Takes : {A : Type 0} → List Input → Result A Refusal → Seen → Seen → Type 0
Takes inputs (Ok _) old new = Took inputs old new
Takes inputs (Err refusal) old new = Stopped inputs refusal old new

-- ---- steps at an open input

abbrev pub Opened : {A : Type 0} → List ℕ → Result A Refusal → Seen → Seen → Type 0
Opened name (Ok _) old new = (is_missing name old.told.inputs ≡ false) × (new.told ≡ after_open name old.told)
Opened name (Err refusal) old new = StopsReading name refusal old new × (new.told ≡ old.told)

-- the call by which an input was opened
abbrev pub OpensBy : {A E : Type 0} → List ℕ → Result A E → List Call → Type 0
OpensBy name (Ok _) calls = calls ≡ OpenIn name true ∷ []
OpensBy name (Err _) calls = calls ≡ OpenIn name false ∷ []

-- the first n bytes of a buffer are the next n of an input; none only at its end
abbrev pub IsPiece : ℕ → List ℕ → List ℕ → Type 0
IsPiece n rest buffer = (n ≤ length rest) × (n ≡ 0 → rest ≡ []) × (take n buffer ≡ take n rest)
