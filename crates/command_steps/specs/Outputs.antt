-- Outputs and texts: what a command writes and prints, and the calls by which it does.
use Rattle.std.specs.Prelude.{◌≡◌, ℕ, ◌≤◌, ◌⊎◌, true, false, List, [], ◌∷◌, map, length, take, Result, Ok, Err}
use Rattle.capture_desk.specs.declared.calls.Call.{Call}
use Rattle.capture_desk.specs.declared.calls.Call.TheVariants.{CreateOut, Finish, Say}
use Rattle.capture_desk.specs.Desks.{IsWriteFault, Seen, Told, Tells, counted, said_by, after_create, after_write, after_finish, after_say}
use Rattle.command_texts.specs.declared.answer.Answer.{Answer}
use Rattle.command_texts.specs.declared.answer.Answer.TheVariants.{Done, NoMemory, WriteFault}
use Rattle.command_texts.specs.declared.refusal.Refusal.{Refusal}
use Rattle.command_texts.specs.Answers.{TakesMemory, answer_of}
use Rattle.command_texts.specs.Texts.{answer_text}
use Rattle.command_steps.specs.declared.outputs.Output.{Output}
use Rattle.command_steps.specs.Inputs.{SameCounts, apart}
use Rattle.command_steps.specs.Reading.{Calls}

-- the bytes that a command writes, file by file in order, each a name with bytes, and the text that it prints last
pub record Product : Type 0 where
  pub files : List (List ℕ × List ℕ)
  pub text : List ℕ

abbrev pub names_of : List (List ℕ × List ℕ) → List (List ℕ)
names_of files = map (λ file. file.0) files

-- the files of outputs, by the bytes of what each holds
abbrev pub files_of : {C : Type 0} → (C → List ℕ) → List (Output C) → List (List ℕ × List ℕ)
files_of bytes outputs = map (λ (output : Output _). (output.name.now, bytes output.content)) outputs

-- ---- what is written and printed

-- a file was written whole
abbrev pub after_file : List ℕ × List ℕ → Told → Told
after_file file t = after_finish (after_write file.1 (after_create file.0 t))

abbrev pub delivered : List (List ℕ × List ℕ) → List ℕ → Told → Told
delivered [] text t = after_say text t
delivered (file ∷ files) text t = delivered files text (after_file file t)

-- a file was not created, or it is open and has some of its first bytes
abbrev pub IsFilePart : List ℕ → List ℕ → Told → Told → Type 0
IsFilePart name bytes t new =
    (new ≡ t) ⊎ ((n : ℕ) × (n ≤ length bytes) × (new ≡ after_write (take n bytes) (after_create name t)))

-- a part was delivered: some files whole, and the next one not at all or up to one of its bytes; or all files, and
-- the text up to one of its bytes
abbrev pub IsPart : List (List ℕ × List ℕ) → List ℕ → Told → Told → Type 0
IsPart [] text t new = (n : ℕ) × (n ≤ length text) × (new ≡ after_say (take n text) t)
IsPart (file ∷ files) text t new =
    (new ≡ t)
    ⊎ (((n : ℕ) × (n ≤ length file.1) × (new ≡ after_write (take n file.1) (after_create file.0 t)))
    ⊎ IsPart files text (after_file file t) new)

-- ---- the calls

-- each file is created once and finished before the next; the text comes last
abbrev pub delivery : List (List ℕ) → List ℕ → List Call
delivery [] text = said_by text
delivery (name ∷ names) text = CreateOut name true ∷ Finish true ∷ delivery names text

-- a delivery up to a call that failed: a creation, a write, a finish, or a call of `say`
abbrev pub IsDeliveryPart : List (List ℕ) → List Call → Type 0
IsDeliveryPart [] calls = calls ≡ Say ∷ []
IsDeliveryPart (name ∷ names) calls =
    (calls ≡ CreateOut name false ∷ [])
    ⊎ ((calls ≡ CreateOut name true ∷ [])
    ⊎ ((calls ≡ CreateOut name true ∷ Finish false ∷ [])
    ⊎ ((later : List Call) × (calls ≡ CreateOut name true ∷ Finish true ∷ later) × IsDeliveryPart names later)))

abbrev pub IsDeliveryOf : {A E : Type 0} → List (List ℕ) → List ℕ → Result A E → List Call → Type 0
IsDeliveryOf names text (Ok _) calls = calls ≡ delivery names text
IsDeliveryOf names text (Err _) calls = IsDeliveryPart names calls

-- the calls of one file
abbrev pub IsFileOf : {A E : Type 0} → List ℕ → Result A E → List Call → Type 0
IsFileOf name (Ok _) calls = calls ≡ CreateOut name true ∷ Finish true ∷ []
IsFileOf name (Err _) calls =
    (calls ≡ CreateOut name false ∷ [])
    ⊎ ((calls ≡ CreateOut name true ∷ []) ⊎ (calls ≡ CreateOut name true ∷ Finish false ∷ []))

-- ---- faults of writing

-- by the answer of a step that only writes and prints
abbrev pub DeliveryCounts : {A E : Type 0} → Result A E → Seen → Seen → Type 0
DeliveryCounts (Ok _) old new = SameCounts old new
DeliveryCounts (Err _) old new = IsWriteFault old new

-- one call at writing failed, and it is the last call of all
abbrev pub LastWriteFailed : Seen → Seen → Type 0
LastWriteFailed old new = (new.writes ≡ counted old.writes) × (new.failed ≡ true)

-- no call follows one that fails at writing
abbrev pub EndsAtFault : Seen → Seen → Type 0
EndsAtFault old new = (new.writes ≡ old.writes) ⊎ LastWriteFailed old new

-- ---- what a command comes to once its inputs are taken

pub record AreDelivered (files : List (List ℕ × List ℕ)) (text : List ℕ) (old new : Seen) : Type 0 where
  pub left : new.told ≡ delivered files text old.told
  pub counts : SameCounts old new
  pub calls : Tells (delivery (names_of files) text) old.calls new.calls

pub record AreCutOff (files : List (List ℕ × List ℕ)) (text : List ℕ) (old new : Seen) : Type 0 where
  pub left : IsPart files text old.told new.told
  pub fault : IsWriteFault old new
  pub calls : Calls (IsDeliveryPart (names_of files)) old new

-- the files were written and the text was printed, or a part of them, up to a fault of writing
abbrev pub Finishes : List (List ℕ × List ℕ) → List ℕ → Answer → Seen → Seen → Type 0
Finishes files text Done old new = AreDelivered files text old new
Finishes files text WriteFault old new = AreCutOff files text old new
Finishes files text _ old new = ⊥

-- ---- refusals

-- a text was printed and nothing else changed; or a part of it, up to a fault of the desk, after which the desk was not
-- called
abbrev pub Says : List ℕ → Seen → Seen → Type 0
Says text old new =
    (n : ℕ) × (n ≤ length text) × (apart new.told ≡ after_say (take n text) (apart old.told))
    × (((n ≡ length text) × (new.writes ≡ old.writes)) ⊎ LastWriteFailed old new)

-- by one run of calls of `say`
abbrev pub SaysAtOnce : List ℕ → Seen → Seen → Type 0
SaysAtOnce text old new = Says text old new × Tells (said_by text) old.calls new.calls × (new.reads ≡ old.reads)

-- the text of a refusal was printed, or that of `NoMemory` where memory ran out for it
abbrev pub Refused : Refusal → Answer → Seen → Seen → Type 0
Refused refusal answer old new =
    ((answer ≡ answer_of refusal) ⊎ ((answer ≡ NoMemory) × TakesMemory refusal)) × SaysAtOnce (answer_text answer) old new
