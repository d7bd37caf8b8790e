-- What the top call promises, one by one. A clause about a content holds where the desk tells it.
use Rattle.std.specs.Prelude.{◌≡◌, ℕ, ◌≤◌, ◌⊎◌, ⊤, false, true, List, [], ◌∷◌, ◌++◌, length, take, Option, Some, None, option_map, Result}
use Rattle.std.specs.Prelude.{Ok, Err}
use Rattle.bt878_words.specs.declared.Task.{Task}
use Rattle.bt878_words.specs.declared.UsageFault.{UsageFault}
use Rattle.capture_desk.specs.Desks.{Seen, Inputs, Outputs, Tells, Told, said_by, is_among, is_missing, output_named}
use Rattle.capture_desc.specs.declared.desc.Desc.{Desc}
use Rattle.machine_model.specs.States.{State}
use Rattle.machine_model.specs.Steps.{state_at}
use Rattle.machine_model.specs.Steps as machine
use Rattle.machine_model.specs.Safety.{IsInside}
use Rattle.capture_file.specs.declared.program.ProgramFile.{ProgramFile}
use Rattle.capture_file.specs.Programs.{program_of, spelled}
use Rattle.capture_file.specs.Streams.{steps_run}
use Rattle.capture_file.specs.Images.{image_of}
use Rattle.picture_model.specs.Programs.{compiled}
use Rattle.field_stream.specs.Made.{made, made_entries, made_fields}
use Rattle.dma_machine.specs.Facts.{report_of}
use Rattle.risc_listing.specs.Listings.{listing}
use Rattle.command_texts.specs.declared.answer.Answer.{Answer}
use Rattle.command_texts.specs.declared.answer.Answer.TheVariants.{Done, Usage, WriteFault}
use Rattle.command_texts.specs.declared.refusal.Refusal.{Refusal}
use Rattle.command_texts.specs.declared.refusal.Refusal.TheVariants.{ReadFault, NoMemory}
use Rattle.command_texts.specs.Answers.{answer_of}
use Rattle.command_steps.specs.Outputs.{Product}
use Rattle.command_steps.specs.Reading.{Calls}
use Rattle.command_steps.specs.Inputs.{AreGood, Input, IsFirstBadOf, IsThereAndGood, OfInput, ReadsRose, WritesRose}
use Rattle.command_texts.specs.Texts.{accepted_text, answer_text, blocks_text, made_text, report_text}
use Rattle.command_inputs.specs.Programs.{HoldsSound}
use Rattle.stream_play.specs.Runs.{IsRun, LiveRan, Ran, chain_ran, first_of, last_live_of, last_of, live_steps_of, OfRun}
use Rattle.command_inputs.specs.Descriptions.{Describes, GivesDescribed}
use Rattle.command_texts.specs.DamageTexts.{damage_text}
use Rattle.command_inputs.specs.Listings.{GivesAssembled}
use Rattle.command_inputs.specs.Checked.{FindsBy}
use Rattle.command_inputs.specs.Rings.{GivesRing}
use Rattle.chain_model.specs.Chains.{Chain}
use Rattle.chain_model.specs.Live.{LiveStep}
use Rattle.ring_model.specs.Rings.{Ring}
use Rattle.bt878_contract.specs.Tasks.{IsLiveRun, IsPartOfWork, IsProduct, IsRefusedWork, IsWholeWork, Meaning, RunsChain, RunsProgram}
use Rattle.bt878_contract.specs.Tasks.{blocks_of, rows_told, compiled_text, input_of, inputs_of, meaning, program_text, trace_of}

-- ---- the words

-- `Usage` has the first fault of the words, and comes only where they have one
abbrev pub IsUsage : Result Task UsageFault → Answer → Type 0
IsUsage (Err fault) answer = answer ≡ Usage fault
IsUsage (Ok task) answer = (fault : UsageFault) → answer ≡ Usage fault → ⊥

-- ---- what is read

-- the desk tells the inputs
abbrev pub AreTold : Option Inputs → Type 0
AreTold None = ⊥
AreTold (Some inputs) = ⊤

-- P of what a command ran: the program that its first input gives, with its fill, over the steps of the whole stream.
-- Commands that run no program, and `chain`, whose program is patched, promise nothing here.
abbrev pub OfRanBy : Meaning → Option Inputs → (Ran → Type 0) → Type 0
OfRanBy (RunsProgram r) inputs P = OfRun r.Gives (input_of r.source).name (input_of r.stream).name inputs P
OfRanBy m inputs P = ⊤

abbrev pub OfRan : Result Task UsageFault → Option Inputs → (Ran → Type 0) → Type 0
OfRan (Ok task) inputs P = OfRanBy (meaning task) inputs P
OfRan (Err fault) inputs P = ⊥

-- P of the ring that `ring` read, and of what it ran
abbrev pub OfRingRun : List ℕ → List ℕ → Option Inputs → (Ring → Ran → Type 0) → Type 0
OfRingRun ring stream inputs P =
    OfInput ring inputs (λ a. OfInput stream inputs (λ b. (x : Ring) × (r : Ran) × IsRun (GivesRing x) a b r × P x r))

-- P of what `chain` ran: the chain of the two descriptions over the steps of the whole stream
abbrev pub OfLiveRun : List ℕ → List ℕ → List ℕ → Option Inputs → (LiveRan → Type 0) → Type 0
OfLiveRun first second stream inputs P =
    OfInput first inputs (λ a. OfInput second inputs (λ b. OfInput stream inputs (λ c.
    (r : LiveRan) × IsLiveRun a b c r × P r)))

abbrev pub OfLiveBy : Meaning → Option Inputs → (LiveRan → Type 0) → Type 0
OfLiveBy (RunsChain c) inputs P = OfLiveRun c.one c.two c.stream inputs P
OfLiveBy m inputs P = ⊤

abbrev pub OfLive : Result Task UsageFault → Option Inputs → (LiveRan → Type 0) → Type 0
OfLive (Ok task) inputs P = OfLiveBy (meaning task) inputs P
OfLive (Err fault) inputs P = ⊤

-- P of the description that `damage` read, and of what it ran
abbrev pub OfDescRun : List ℕ → List ℕ → Option Inputs → (Desc → Ran → Type 0) → Type 0
OfDescRun desc stream inputs P =
    OfInput desc inputs (λ a. OfInput stream inputs (λ b. (d : Desc) × (r : Ran) × IsRun (GivesDescribed d) a b r × P d r))

-- P of the description that `compile` or `make` read
abbrev pub OfDesc : List ℕ → Option Inputs → (Desc → Type 0) → Type 0
OfDesc desc inputs P = OfInput desc inputs (λ bytes. (d : Desc) × Describes bytes d × P d)

-- ---- what is written and printed

-- the output of a name is there, with these bytes
abbrev pub IsOutput : List ℕ → List ℕ → Option Outputs → Type 0
IsOutput name bytes None = ⊤
IsOutput name bytes (Some outputs) = output_named name outputs ≡ Some bytes

-- the output of a name is as it was
abbrev pub SameOutput : List ℕ → Option Outputs → Option Outputs → Type 0
SameOutput name old new = option_map (output_named name) new ≡ option_map (output_named name) old

-- this text was printed, and nothing else
abbrev pub SaysAll : List ℕ → Told → Told → Type 0
SaysAll text old new = new.said ≡ option_map (λ said. said ++ text) old.said

-- some first bytes of this text were printed, and nothing else
abbrev pub SaysPart : List ℕ → Told → Told → Type 0
SaysPart text old new = (n : ℕ) × (n ≤ length text) × SaysAll (take n text) old new

-- no output was created or changed
abbrev pub CreatesNone : Told → Told → Type 0
CreatesNone old new = (new.outputs ≡ old.outputs) × (new.writing ≡ old.writing) × (new.output_open ≡ old.output_open)

-- ---- at Done

-- the image is that of the memory after all steps
abbrev pub ShowsImage : List ℕ → Told → Ran → Type 0
ShowsImage image new r = IsOutput image (image_of (last_of r).memory) new.outputs

-- and the report is that of the same state
abbrev pub ShowsLast : List ℕ → Told → Told → Ran → Type 0
ShowsLast image old new r = ShowsImage image new r × SaysAll (report_text (report_of (last_of r))) old new

-- the image is that of the memory after all live steps, and the report that of the same state
abbrev pub ShowsLastLive : List ℕ → Told → Told → LiveRan → Type 0
ShowsLastLive image old new r =
    IsOutput image (image_of (last_live_of r).machine.memory) new.outputs
    × SaysAll (report_text (report_of (last_live_of r).machine)) old new

-- P of the chain, of the byte that fills its memory, and of the live steps
abbrev pub OfLiveSteps : (Chain → ℕ → List LiveStep → Type 0) → LiveRan → Type 0
OfLiveSteps P r = P (chain_ran r) r.first.fill (live_steps_of r)

-- the block ends over all steps are printed, and then the report of the state after them
abbrev pub SaysBlocks : Told → Told → Ring → Ran → Type 0
SaysBlocks old new ring r = SaysAll (blocks_text (blocks_of ring r) (report_of (last_of r))) old new

-- which rows are whole lines at the last signal of each field is printed, and nothing is created
abbrev pub SaysDamage : Told → Told → Desc → Ran → Type 0
SaysDamage old new d r = SaysAll (damage_text d (rows_told d r)) old new × CreatesNone old new

-- the trace of the steps is printed, and nothing is created
abbrev pub SaysTrace : Told → Told → Ran → Type 0
SaysTrace old new r = SaysAll (trace_of r) old new × CreatesNone old new

-- the program file of `capture` or `ring` is the canonical encoding of the program that ran and of its fill
abbrev pub ShowsProgram : List ℕ → Told → Ran → Type 0
ShowsProgram program new r = IsOutput program (spelled r.program r.fill) new.outputs

-- at every place of the steps, what the turn there writes is granted, what it fetches is a word of the program, and
-- OCERR is 0
abbrev pub StaysInside : Ran → Type 0
StaysInside r = (place : ℕ) → IsInside r.program (state_at (first_of r) (steps_run r.steps) place)

-- P of the machine before its first step, and of the steps of the whole stream
abbrev pub OfSteps : (State → List machine.Step → Type 0) → Ran → Type 0
OfSteps P r = P (first_of r) (steps_run r.steps)

-- the program of the file is sound, `accepted` is printed, and nothing is created
abbrev pub SaysAccepted : List ℕ → Told → Told → Type 0
SaysAccepted program old new = OfInput program old.inputs HoldsSound × SaysAll accepted_text old new × CreatesNone old new

-- the listing of the whole file's program is printed, and nothing is created
abbrev pub SaysListing : List ℕ → Told → Told → Type 0
SaysListing program old new =
    OfInput program old.inputs (λ bytes. (file : ProgramFile) × (program_of bytes ≡ Ok file)
    × SaysAll (listing file.program file.fill) old new) × CreatesNone old new

-- the canonical encoding of the description's program and of its fill is written, and the numbers of its words and chunks
-- are printed
abbrev pub IsCompiled : List ℕ → List ℕ → Told → Told → Type 0
IsCompiled desc program old new =
    OfDesc desc old.inputs (λ d. IsOutput program (spelled (compiled d) d.fill) new.outputs × SaysAll (compiled_text d) old new)

-- the generated stream is written, and its numbers of fields and data entries are printed
abbrev pub IsGenerated : List ℕ → ℕ → ℕ → List ℕ → Told → Told → Type 0
IsGenerated desc seed frames stream old new =
    OfDesc desc old.inputs (λ d. IsOutput stream (made d seed frames) new.outputs
    × SaysAll (made_text (made_fields d frames) (made_entries d frames)) old new)

-- the text is the listing of a program and a fill; their canonical encoding is written, and the numbers of the program's
-- words and chunks are printed
abbrev pub IsAssembled : List ℕ → List ℕ → Told → Told → Type 0
IsAssembled text program old new =
    OfInput text old.inputs (λ bytes. (file : ProgramFile) × GivesAssembled bytes file
    × IsOutput program (spelled file.program file.fill) new.outputs × SaysAll (program_text file.program) old new)

-- the program of the first file is sound and shows each field that the description of the second describes, what is found of
-- them is printed, and nothing is created
abbrev pub SaysChecked : List ℕ → List ℕ → Told → Told → Type 0
SaysChecked program desc old new =
    OfInput program old.inputs (λ a. OfInput desc old.inputs (λ b.
    (text : List ℕ) × FindsBy a b true text × SaysAll text old new)) × CreatesNone old new

-- this text is printed, and nothing is created
abbrev pub SaysAlone : List ℕ → Told → Told → Type 0
SaysAlone text old new = SaysAll text old new × CreatesNone old new

-- ---- why it is refused

-- the desk met a fault of reading, or tells that one of these inputs isn't there
abbrev pub IsUnreadOf : List (List ℕ) → Seen → Seen → Type 0
IsUnreadOf names old new =
    ReadsRose old new
    ⊎ ((name : List ℕ) × (is_among name names ≡ true) × (is_missing name old.told.inputs ≡ true))

-- the cause of a refusal that has what is bad about an input: `Malformed`, `Rejected`, `BadDesc`, `BadGeometry`,
-- `BadChain`, `BadRing`, `BadText` or `Differs`
abbrev pub IsBadInput : Result Task UsageFault → Refusal → Option Inputs → Type 0
IsBadInput (Ok task) refusal inputs = IsFirstBadOf (inputs_of task) refusal inputs
IsBadInput (Err fault) refusal inputs = ⊥

-- the refusals that have such a cause
abbrev pub TellsInput : Refusal → Type 0
TellsInput ReadFault = ⊥
TellsInput NoMemory = ⊥
TellsInput _ = ⊤

-- an input isn't there, and those before it are good
abbrev pub IsFirstMissing : List Input → Option Inputs → Type 0
IsFirstMissing [] told = ⊥
IsFirstMissing (input ∷ inputs) told =
    (is_missing input.name told ≡ true) ⊎ (IsThereAndGood input told × IsFirstMissing inputs told)

abbrev pub LacksInput : Result Task UsageFault → Option Inputs → Type 0
LacksInput (Ok task) told = IsFirstMissing (inputs_of task) told
LacksInput (Err fault) told = ⊥

-- the first input isn't there
abbrev pub IsHeadMissing : List Input → Option Inputs → Type 0
IsHeadMissing [] told = ⊥
IsHeadMissing (input ∷ inputs) told = is_missing input.name told ≡ true

abbrev pub LacksFirst : Result Task UsageFault → Option Inputs → Type 0
LacksFirst (Ok task) told = IsHeadMissing (inputs_of task) told
LacksFirst (Err fault) told = ⊥

-- every input is there and good
abbrev pub IsGood : Result Task UsageFault → Option Inputs → Type 0
IsGood (Ok task) inputs = AreGood (inputs_of task) inputs
IsGood (Err fault) inputs = ⊥

-- out of memory, or a fault of reading
abbrev pub IsCut : Answer → Seen → Seen → Type 0
IsCut answer old new = (answer ≡ answer_of NoMemory) ⊎ ((answer ≡ answer_of ReadFault) × ReadsRose old new)

-- the answer is that of this refusal, or was cut off
abbrev pub UnlessCut : Refusal → Answer → Seen → Seen → Type 0
UnlessCut wanted answer old new = (answer ≡ answer_of wanted) ⊎ IsCut answer old new

-- ---- the order of work

-- the calls of the desk come in the order of the task's work
abbrev pub IsInOrder : Result Task UsageFault → Answer → Seen → Seen → Type 0
IsInOrder (Err fault) answer old new = Tells (said_by (answer_text answer)) old.calls new.calls
IsInOrder (Ok task) Done old new = (text : List ℕ) × Calls (IsWholeWork task old.told.inputs text) old new
IsInOrder (Ok task) WriteFault old new = Calls (IsPartOfWork task old.told.inputs) old new
IsInOrder (Ok task) answer old new =
    (refusal : Refusal) × (answer ≡ answer_of refusal) × Calls (IsRefusedWork task refusal old.told.inputs (answer_text answer)) old new

-- ---- what an answer leaves

-- an answer that is neither Done nor WriteFault
abbrev pub IsRefusal : Answer → Type 0
IsRefusal Done = ⊥
IsRefusal WriteFault = ⊥
IsRefusal _ = ⊤

-- nothing was created, and a text was printed: the whole, or a part where the desk met a fault of writing
abbrev pub OnlySays : List ℕ → Seen → Seen → Type 0
OnlySays text old new =
    CreatesNone old.told new.told
    × ((n : ℕ) × (n ≤ length text) × SaysAll (take n text) old.told new.told × ((n ≡ length text) ⊎ WritesRose old new))

-- ---- out of memory

-- Nothing was created, no call at reading failed, and nothing was printed but the text. Some first inputs were read through
-- and found good, and at most one more was opened, at which memory ran out.
abbrev pub IsShort : Result Task UsageFault → Seen → Seen → Type 0
IsShort (Ok task) old new =
    OnlySays (answer_text (answer_of NoMemory)) old new × (new.reads ≡ old.reads)
    × Calls (IsRefusedWork task NoMemory old.told.inputs (answer_text (answer_of NoMemory))) old new
IsShort (Err fault) old new = ⊥

-- ---- after a fault of writing

-- the outputs of these names are as they were
abbrev pub SameOutputs : List (List ℕ × List ℕ) → Option Outputs → Option Outputs → Type 0
SameOutputs [] old new = ⊤
SameOutputs (file ∷ files) old new = SameOutput file.0 old new × SameOutputs files old new

-- Files and a text, cut off. Some first files are whole; then one was not created, or has some of its first bytes, with
-- none after it and nothing printed; or all are whole, and a part of the text was printed.
abbrev pub IsCutOff : List (List ℕ × List ℕ) → List ℕ → Told → Told → Type 0
IsCutOff [] text old new = SaysPart text old new
IsCutOff (file ∷ files) text old new =
    (SameOutputs (file ∷ files) old.outputs new.outputs × (new.said ≡ old.said))
    ⊎ (((n : ℕ) × (n ≤ length file.1) × IsOutput file.0 (take n file.1) new.outputs
    × SameOutputs files old.outputs new.outputs × (new.said ≡ old.said))
    ⊎ (IsOutput file.0 file.1 new.outputs × IsCutOff files text old new))

-- what is there after a fault of writing: what the command makes of its inputs, cut off
abbrev pub StandsAt : Result Task UsageFault → Told → Told → Type 0
StandsAt (Ok task) old new =
    (product : Product) × IsProduct task old.inputs product × IsCutOff product.files product.text old new
StandsAt (Err fault) old new = ⊥

-- an output whose name isn't one of these is as it was
abbrev pub OnlyOutputs : List (List ℕ) → Told → Told → Type 0
OnlyOutputs names old new = (name : List ℕ) → is_among name names ≡ false → SameOutput name old.outputs new.outputs

-- the inputs by name, and the names that may be opened and created, are as they were
abbrev pub SameNames : Told → Told → Type 0
SameNames old new = (new.inputs ≡ old.inputs) × (new.may_open ≡ old.may_open) × (new.may_create ≡ old.may_create)
