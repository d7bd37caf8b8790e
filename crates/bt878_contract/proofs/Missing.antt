-- What comes of an input that isn't there.
use Rattle.std.proofs.Common.{◌≡◌, ℕ, ◌⊎◌, inl, inr, true, false, Bool, List, [], ◌∷◌, Option, Some, None, refl}
use Rattle.bt878_words.specs.declared.Task.{Task}
use Rattle.bt878_words.specs.declared.Task.TheVariants as command
use Rattle.capture_desk.specs.declared.calls.Call.{Call}
use Rattle.capture_desk.specs.declared.calls.Call.TheVariants.{OpenIn, Read, CreateOut, Finish, Say}
use Rattle.capture_desk.specs.Desks.{Inputs, Seen, is_missing}
use Rattle.command_texts.specs.declared.refusal.Refusal.{Refusal}
use Rattle.command_texts.specs.declared.refusal.Refusal.TheVariants.{ReadFault, NoMemory}
use Rattle.command_steps.specs.Inputs.{AreGood, Input, IsThereAndGood, StopsAt, StopsIn}
use Rattle.command_steps.specs.Reading.{AreTakenUpTo, EndsTaking, IsOpened}
use Rattle.command_steps.proofs.Inputs.{is_there}
use Rattle.bt878_contract.specs.Tasks.{inputs_of}
use Rattle.bt878_contract.specs.Clauses.{AreTold, IsFirstMissing, IsHeadMissing}
use Rattle.bt878_contract.proofs.Judges.{AreJudged, IsJudged, good_or_bad}

never_both : (b : Bool) → b ≡ true → b ≡ false → ⊥
never_both b is not = absurd (cc)

-- a good input isn't missing
good_is_there : (input : Input) (told : Option Inputs) → IsThereAndGood input told → is_missing input.name told ≡ true → ⊥
good_is_there input told good missing =
    never_both (is_missing input.name told) missing (is_there input.name told (input.judge.IsGood told) good)

pub good_not_missing : (inputs : List Input) (told : Option Inputs) → AreGood inputs told → IsFirstMissing inputs told → ⊥
good_not_missing [] told good missing = missing
good_not_missing (input ∷ inputs) told good (inl missing) = good_is_there input told good.0 missing
good_not_missing (input ∷ inputs) told good (inr (there, later)) = good_not_missing inputs told good.1 later

-- where an input is missing the desk tells the inputs
missing_told : (name : List ℕ) (told : Option Inputs) → is_missing name told ≡ true → AreTold told
missing_told name None missing = absurd (cc)
missing_told name (Some inputs) missing = tt

all_told : (inputs : List Input) (told : Option Inputs) → IsFirstMissing inputs told → AreTold told
all_told [] told missing = absurd missing
all_told (input ∷ inputs) told (inl missing) = missing_told input.name told missing
all_told (input ∷ inputs) told (inr (there, later)) = all_told inputs told later

-- ---- why it stops

-- an input that is missing is bad in no way
stops_at_missing : (input : Input) (judged : IsJudged input) (refusal : Refusal) (old new : Seen) →
    is_missing input.name old.told.inputs ≡ true → StopsAt input.judge.IsBad input.name refusal old new →
    (refusal ≡ ReadFault) ⊎ (refusal ≡ NoMemory)
stops_at_missing input judged ReadFault old new missing h = inl refl
stops_at_missing input judged NoMemory old new missing h = inr refl
stops_at_missing input judged refusal old new missing h =
    absurd (never_both (is_missing input.name old.told.inputs) missing
    (is_there input.name old.told.inputs (judged.Why refusal old.told.inputs) (judged.judges.tells input.name refusal old.told.inputs h)))

stops_at_good : (input : Input) (judged : IsJudged input) (refusal : Refusal) (old new : Seen) → AreTold old.told.inputs →
    IsThereAndGood input old.told.inputs → StopsAt input.judge.IsBad input.name refusal old new →
    (refusal ≡ ReadFault) ⊎ (refusal ≡ NoMemory)
stops_at_good input judged ReadFault old new told good h = inl refl
stops_at_good input judged NoMemory old new told good h = inr refl
stops_at_good input judged refusal old new told good h = absurd (good_or_bad judged.judges input.name refusal old.told.inputs told good h)

pub missing_leads : (inputs : List Input) → AreJudged inputs → (refusal : Refusal) (old new : Seen) →
    IsFirstMissing inputs old.told.inputs → StopsIn inputs refusal old new →
    (refusal ≡ ReadFault) ⊎ (refusal ≡ NoMemory)
missing_leads [] are refusal old new missing h = absurd missing
missing_leads (input ∷ inputs) are refusal old new (inl missing) (inl h) = stops_at_missing input are.0 refusal old new missing h
missing_leads (input ∷ inputs) are refusal old new (inl missing) (inr h) = absurd (good_is_there input old.told.inputs h.0 missing)
missing_leads (input ∷ inputs) are refusal old new (inr (there, later)) (inl h) =
    stops_at_good input are.0 refusal old new (all_told inputs old.told.inputs later) there h
missing_leads (input ∷ inputs) are refusal old new (inr (there, later)) (inr h) = missing_leads inputs are.1 refusal old new later h.1

-- ---- the first input

-- the first input of each task is kept, so that it is opened before memory is taken
abbrev pub IsFirstKept : List Input → Type 0
IsFirstKept [] = Unit {0}
IsFirstKept (input ∷ inputs) = input.judge.kept ≡ true

pub first_is_kept : (task : Task) → IsFirstKept (inputs_of task)
first_is_kept (command.List program) = refl
first_is_kept (command.Verify program) = refl
first_is_kept (command.Run program stream image) = refl
first_is_kept (command.Compile desc program) = refl
first_is_kept (command.Capture desc stream program image) = refl
first_is_kept (command.Make desc seed frames stream) = refl
first_is_kept (command.Chain one two stream image) = refl
first_is_kept (command.Damage desc stream) = refl
first_is_kept (command.Ring ring stream program image) = refl
first_is_kept (command.Assemble text program) = refl
first_is_kept (command.Check program desc) = refl
first_is_kept (command.Trace program stream) = refl
first_is_kept command.Help = tt
first_is_kept command.Version = tt

opened_there : (name : List ℕ) (told : Option Inputs) (calls : List Call) → IsOpened name told calls → is_missing name told ≡ false
opened_there name told [] h = absurd h
opened_there name told (OpenIn other true ∷ calls) h = h
opened_there name told (OpenIn other false ∷ calls) h = absurd h
opened_there name told (Read size moved ∷ calls) h = absurd h
opened_there name told (CreateOut other done ∷ calls) h = absurd h
opened_there name told (Finish done ∷ calls) h = absurd h
opened_there name told (Say ∷ calls) h = absurd h

only_unread : (refusal : Refusal) (name : List ℕ) (told : Option Inputs) (calls : List Call) → is_missing name told ≡ true →
    EndsTaking refusal true name told calls → refusal ≡ ReadFault
only_unread ReadFault name told calls missing h = refl
only_unread NoMemory name told calls missing h = absurd (never_both (is_missing name told) missing (opened_there name told calls h))
only_unread refusal name told calls missing h = absurd (never_both (is_missing name told) missing (opened_there name told calls h.0))

kept_unread : (kept : Bool) (refusal : Refusal) (name : List ℕ) (told : Option Inputs) (calls : List Call) → kept ≡ true →
    is_missing name told ≡ true → EndsTaking refusal kept name told calls → refusal ≡ ReadFault
kept_unread true refusal name told calls is missing h = only_unread refusal name told calls missing h
kept_unread false refusal name told calls is missing h = absurd (cc)

pub head_leads : (inputs : List Input) (refusal : Refusal) (told : Option Inputs) (calls : List Call) → IsFirstKept inputs →
    IsHeadMissing inputs told → AreTakenUpTo inputs refusal told calls → refusal ≡ ReadFault
head_leads [] refusal told calls kept missing h = absurd missing
head_leads (input ∷ inputs) refusal told calls kept missing (inl h) =
    kept_unread input.judge.kept refusal input.name told calls kept missing h.1
head_leads (input ∷ inputs) refusal told calls kept missing (inr (x, y, e, whole, good, may, more)) =
    absurd (good_is_there input told good missing)

-- a first input that is missing is the first that is
pub head_is_first : (inputs : List Input) (told : Option Inputs) → IsHeadMissing inputs told → IsFirstMissing inputs told
head_is_first [] told h = h
head_is_first (input ∷ inputs) told h = inl h
