-- Inputs: what the desk tells of one, how it is checked, and why it is not taken.
use Rattle.std.specs.Prelude.{◌≡◌, ℕ, ◌⊎◌, ⊤, Bool, true, false, List, [], ◌∷◌, Option, Some, None, Result, Ok, Err}
use Rattle.capture_desk.specs.Desks.{Inputs, Seen, Told, HasRisen, named, is_missing}
use Rattle.command_texts.specs.declared.refusal.Refusal.{Refusal}
use Rattle.command_texts.specs.declared.refusal.Refusal.TheVariants.{ReadFault, NoMemory}

-- what the desk tells, apart from the input that is open
abbrev pub apart : Told → Told
apart t = record t { rest = None; input_open = false }

-- ---- counts of faults

abbrev pub ReadsRose : Seen → Seen → Type 0
ReadsRose old new = HasRisen old.reads new.reads

abbrev pub WritesRose : Seen → Seen → Type 0
WritesRose old new = HasRisen old.writes new.writes

-- no call at reading failed, unless the refusal is `ReadFault`
abbrev pub KeepsReads : Refusal → Seen → Seen → Type 0
KeepsReads ReadFault old new = ⊤
KeepsReads _ old new = new.reads ≡ old.reads

abbrev pub ReadsBy : {A : Type 0} → Result A Refusal → Seen → Seen → Type 0
ReadsBy (Ok _) old new = new.reads ≡ old.reads
ReadsBy (Err refusal) old new = KeepsReads refusal old new

abbrev pub SameCounts : Seen → Seen → Type 0
SameCounts old new = (new.reads ≡ old.reads) × (new.writes ≡ old.writes)

-- ---- what the desk tells of an input

abbrev pub OfFile : Option (List ℕ) → (List ℕ → Type 0) → Type 0
OfFile None P = ⊥
OfFile (Some bytes) P = P bytes

-- where the desk tells the inputs, one has this name, and P holds of its bytes
abbrev pub OfInput : List ℕ → Option Inputs → (List ℕ → Type 0) → Type 0
OfInput name None P = ⊤
OfInput name (Some inputs) P = OfFile (named name inputs) P

-- where the desk tells the rest of the open input, P holds of it
abbrev pub OfRest : Option (List ℕ) → (List ℕ → Type 0) → Type 0
OfRest None P = ⊤
OfRest (Some rest) P = P rest

-- ---- why an input is not taken

-- it could not be read: the desk met a fault, or it tells that there is none of that name
abbrev pub IsUnread : List ℕ → Seen → Seen → Type 0
IsUnread name old new = ReadsRose old new ⊎ (is_missing name old.told.inputs ≡ true)

abbrev pub StopsAtRead : Refusal → Seen → Seen → Type 0
StopsAtRead ReadFault old new = ReadsRose old new
StopsAtRead NoMemory old new = ⊤
StopsAtRead _ old new = ⊥

abbrev pub StopsReading : List ℕ → Refusal → Seen → Seen → Type 0
StopsReading name ReadFault old new = IsUnread name old new
StopsReading name _ old new = ⊥

-- it could not be read, or it is bad in the way of this refusal; running out of memory is free
abbrev pub StopsAt : (List ℕ → Refusal → Option Inputs → Type 0) → List ℕ → Refusal → Seen → Seen → Type 0
StopsAt IsBad name ReadFault old new = IsUnread name old new
StopsAt IsBad name NoMemory old new = ⊤
StopsAt IsBad name refusal old new = IsBad name refusal old.told.inputs

-- ---- judges

-- How an input of some kind is checked. It is read to one byte beyond `most`, and behind its first bytes it is read on only
-- where `MayGoOn` holds of them. `IsGood` is by its bytes and what the desk tells of the other inputs; `IsBad` is by a
-- refusal. For an input that is kept memory is taken only once it is open, for any other only before.
pub record Judge : Type 1 where
  pub most : ℕ
  pub kept : Bool
  pub MayGoOn : List ℕ → Type 0
  pub IsGood : Option Inputs → List ℕ → Type 0
  pub IsBad : List ℕ → Refusal → Option Inputs → Type 0

pub record Input : Type 1 where
  pub name : List ℕ
  pub judge : Judge

-- an input that is good by its bytes alone
abbrev pub ByBytes : (List ℕ → Type 0) → Option Inputs → List ℕ → Type 0
ByBytes P told bytes = P bytes

-- an input that is checked as a whole is read on whatever its first bytes are
abbrev pub Always : List ℕ → Type 0
Always bytes = ⊤

-- an input that is read and not checked yet: all bytes are good
abbrev pub raw_files : ℕ → Judge
raw_files most = record { most = most; kept = true; MayGoOn = Always; IsGood = ByBytes Always; IsBad = λ name refusal told. ⊥ }

abbrev pub a_raw : List ℕ → ℕ → Input
a_raw name most = record { name = name; judge = raw_files most }

abbrev pub IsThereAndGood : Input → Option Inputs → Type 0
IsThereAndGood input told = OfInput input.name told (input.judge.IsGood told)

-- every input is there and good
abbrev pub AreGood : List Input → Option Inputs → Type 0
AreGood [] told = ⊤
AreGood (input ∷ inputs) told = IsThereAndGood input told × AreGood inputs told

-- the first input that is not good is bad in the way of a refusal
abbrev pub IsFirstBadOf : List Input → Refusal → Option Inputs → Type 0
IsFirstBadOf [] refusal told = ⊥
IsFirstBadOf (input ∷ inputs) refusal told =
    input.judge.IsBad input.name refusal told ⊎ (IsThereAndGood input told × IsFirstBadOf inputs refusal told)

-- the inputs are taken one after the other, and the first that is not taken gives the refusal; where all are taken, only
-- memory may run out
abbrev pub StopsIn : List Input → Refusal → Seen → Seen → Type 0
StopsIn [] refusal old new = refusal ≡ NoMemory
StopsIn (input ∷ inputs) refusal old new =
    StopsAt input.judge.IsBad input.name refusal old new
    ⊎ (IsThereAndGood input old.told.inputs × StopsIn inputs refusal old new)
