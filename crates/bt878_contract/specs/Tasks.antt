-- What the words ask for, what each command means, what comes of it, and why it is refused.
use Rattle.std.specs.Prelude.{◌≡◌, ℕ, ⊤, Bool, List, [], ◌∷◌, ◌++◌, map, length, Option, Some, None, MatchOption, Result, Ok, Err, true}
use Rattle.std.specs.Prelude.{false}
use Rattle.bt878_words.specs.declared.Task.{Task}
use Rattle.bt878_words.specs.declared.Task.TheVariants as command
use Rattle.bt878_words.specs.declared.UsageFault.{UsageFault}
use Rattle.bt878_words.specs.Words.{writes}
use Rattle.capture_desk.specs.declared.calls.Call.{Call}
use Rattle.capture_desk.specs.Desks.{Inputs, IsAllowed, IsWriteFault, Seen, is_among, said_by}
use Rattle.capture_desc.specs.declared.desc.Desc.{Desc}
use Rattle.machine_model.specs.Paths.{RiscProgram, IsSound, all_words}
use Rattle.machine_model.specs.Safety.{IsInside}
use Rattle.machine_model.specs.Steps.{state_at}
use Rattle.capture_file.specs.declared.program.ProgramFile.{ProgramFile}
use Rattle.capture_file.specs.Images.{image_of}
use Rattle.capture_file.specs.Programs.{program_of, spelled}
use Rattle.capture_file.specs.Streams.{steps_of, steps_run}
use Rattle.picture_model.specs.Programs.{compiled}
use Rattle.pixel_layout.specs.declared.Parity.{Parity}
use Rattle.damage_model.specs.Marks.{answer}
use Rattle.command_texts.specs.DamageTexts.{damage_text}
use Rattle.field_stream.specs.Made.{made, made_entries, made_fields}
use Rattle.dma_machine.specs.Facts.{report_of}
use Rattle.risc_listing.specs.Listings.{listing}
use Rattle.command_texts.specs.declared.answer.Answer.{Answer}
use Rattle.command_texts.specs.declared.answer.Answer.TheVariants.{Done, Usage, WriteFault}
use Rattle.command_texts.specs.declared.refusal.Refusal.{Refusal}
use Rattle.command_texts.specs.Answers.{answer_of}
use Rattle.command_texts.specs.Texts.{accepted_text, answer_text, blocks_text, built_text, help_text, made_text, report_text, version_text}
use Rattle.command_steps.specs.Inputs.{Input, KeepsReads, OfInput, SameCounts, StopsIn, apart}
use Rattle.command_steps.specs.Reading.{AreTaken, AreTakenUpTo, Calls}
use Rattle.command_steps.specs.Outputs.{IsDeliveryPart, IsPart, Product, Says, SaysAtOnce, delivered, delivery, names_of}
use Rattle.command_inputs.specs.Programs.{GivesSound, HoldsSound, a_program, a_sound_program}
use Rattle.command_inputs.specs.Descriptions.{Describes, GivesCompiled, GivesDescribed, a_description}
use Rattle.command_inputs.specs.Listings.{GivesAssembled, a_listing}
use Rattle.command_inputs.specs.Chains.{GivesChain, a_first_description, a_second_description}
use Rattle.command_inputs.specs.Checked.{FindsBy, a_shown_description}
use Rattle.command_inputs.specs.Rings.{GivesRing, GivesRingProgram, a_ring}
use Rattle.chain_law.specs.Runs.{KeepsLivePromises}
use Rattle.ring_model.specs.Rings.{Ring, ends}
use Rattle.ring_model.specs.Runs.{block_ends}
use Rattle.kept_stream.specs.Kept.{a_kept_stream}
use Rattle.stream_play.specs.Plays.{longest_stream}
use Rattle.stream_play.specs.Runs.{IsRun, LiveRan, Ran, a_stream_file, chain_ran, first_of, last_live_of, last_of, live_steps_of}
use Rattle.trace_play.specs.Texts.{trace_text}

-- ---- what a task makes of its inputs

-- the image of the memory after all steps
abbrev pub image_file : List ℕ → Ran → List ℕ × List ℕ
image_file name r = (name, image_of (last_of r).memory)

-- the canonical encoding of a program and a fill
abbrev pub program_file : List ℕ → RiscProgram → ℕ → List ℕ × List ℕ
program_file name program fill = (name, spelled program fill)

-- what `run` and `capture` print: the report of the machine after all steps
abbrev pub Reports : List ℕ → Ran → List ℕ → Type 0
Reports file r text = text ≡ report_text (report_of (last_of r))

-- the block ends over all steps of a run of a ring
abbrev pub blocks_of : Ring → Ran → ℕ
blocks_of ring r = block_ends (ends ring) (first_of r) (steps_run r.steps)

-- what `ring` prints of a ring file: its block ends, and then the report
pub record ReportsBlocks (file : List ℕ) (r : Ran) (text : List ℕ) : Type 0 where
  pub ring : Ring
  pub gives : GivesRing ring file r.program r.fill
  pub says : text ≡ blocks_text (blocks_of ring r) (report_of (last_of r))

-- what `trace` prints: the lines of all steps, and the report of the machine after them
abbrev pub trace_of : Ran → List ℕ
trace_of r = trace_text (first_of r) (steps_run r.steps)

abbrev pub Traces : List ℕ → Ran → List ℕ → Type 0
Traces file r text = text ≡ trace_of r

-- which rows of a field are whole lines, at its last signal over all steps of a run
abbrev pub rows_told : Desc → Ran → Parity → Option (List Bool)
rows_told d r field = answer d field (first_of r) (steps_run r.steps)

-- what `damage` prints of a description file: which rows are whole
pub record TellsRows (file : List ℕ) (r : Ran) (text : List ℕ) : Type 0 where
  pub description : Desc
  pub gives : GivesDescribed description file r.program r.fill
  pub says : text ≡ damage_text description (rows_told description r)

-- What a run makes: the files, and a text of which `Says` holds. The program is sound, and at every place of the steps the
-- machine is inside: what a turn there writes is granted, what it fetches is a word of the program, and OCERR is 0.
pub record RunMakes (files : List (List ℕ × List ℕ)) (Says : List ℕ → Type 0) (product : Product) (r : Ran) : Type 0 where
  pub sound : IsSound r.program
  pub writes : product.files ≡ files
  pub says : Says product.text
  pub inside : (place : ℕ) → IsInside r.program (state_at (first_of r) (steps_run r.steps) place)

-- two description files gave the chain, and the steps are those of a whole stream
pub record IsLiveRun (first second stream : List ℕ) (r : LiveRan) : Type 0 where
  pub gives : GivesChain first second r.first r.second
  pub reads : steps_of longest_stream true stream ≡ Ok r.steps

-- What a run of a chain makes: the image of its memory after all steps, and the report of its machine; and at every place
-- of the live run what a chain promises.
pub record ChainMakes (image : List ℕ) (product : Product) (r : LiveRan) : Type 0 where
  pub writes : product.files ≡ (image, image_of (last_live_of r).machine.memory) ∷ []
  pub says : product.text ≡ report_text (report_of (last_live_of r).machine)
  pub promises : KeepsLivePromises (chain_ran r) r.first.fill (live_steps_of r)

-- a text is the listing of a file's program
abbrev pub IsListed : List ℕ → List ℕ → Type 0
IsListed bytes text = (file : ProgramFile) × (program_of bytes ≡ Ok file) × (text ≡ listing file.program file.fill)

-- what a description makes: a file and a text
pub record DescMakes (file : Desc → List ℕ × List ℕ) (text : Desc → List ℕ) (product : Product) (bytes : List ℕ) : Type 0 where
  pub description : Desc
  pub describes : Describes bytes description
  pub writes : product.files ≡ file description ∷ []
  pub says : product.text ≡ text description

-- what `compile` and `assemble` print of a program: how many words and chunks it has
abbrev pub program_text : RiscProgram → List ℕ
program_text program = built_text (length (all_words program)) (length program.grants)

abbrev pub compiled_text : Desc → List ℕ
compiled_text d = program_text (compiled d)

-- what a text makes: the file of the program and the fill whose listing it is
pub record ListingMakes (program : List ℕ) (product : Product) (text : List ℕ) : Type 0 where
  pub file : ProgramFile
  pub assembles : GivesAssembled text file
  pub writes : product.files ≡ program_file program file.program file.fill ∷ []
  pub says : product.text ≡ program_text file.program

-- P of the contents of all inputs, in their order, where the desk tells them
abbrev pub OfInputs : List Input → Option Inputs → (List (List ℕ) → Type 0) → Type 0
OfInputs [] told P = P []
OfInputs (input ∷ inputs) told P = OfInput input.name told (λ bytes. OfInputs inputs told (λ later. P (bytes ∷ later)))

-- ---- the inputs

-- what an input is, with its name
pub data Source : Type 0 where
  Program : List ℕ → Source
  SoundProgram : List ℕ → Source
  Description : List ℕ → Source
  -- the first of the two of a chain, and the second, which is checked with the first
  FirstDescription : List ℕ → Source
  SecondDescription : List ℕ → List ℕ → Source
  -- of the form for chains, or of the other
  Stream : Bool → List ℕ → Source
  -- read whole before anything is made of it
  KeptStream : List ℕ → Source
  RingFile : List ℕ → Source
  Listing : List ℕ → Source
  -- a description that is checked against the program of a file, which has to show each field of it
  ShownDescription : List ℕ → List ℕ → Source

-- its name, and its judge
abbrev pub input_of : Source → Input
input_of (Program name) = a_program name
input_of (SoundProgram name) = a_sound_program name
input_of (Description name) = a_description name
input_of (FirstDescription name) = a_first_description name
input_of (SecondDescription first name) = a_second_description first name
input_of (Stream chained name) = a_stream_file chained name
input_of (KeptStream name) = a_kept_stream name
input_of (RingFile name) = a_ring name
input_of (Listing name) = a_listing name
input_of (ShownDescription program name) = a_shown_description program name

-- ---- the meaning of each command

-- A program that an input gives runs over a stream: the two inputs, what the first gives, the files of the run, and which text
-- is printed of it and of the file that it came from.
pub record RunMeaning : Type 1 where
  pub source : Source
  pub stream : Source
  pub Gives : List ℕ → RiscProgram → ℕ → Type 0
  pub files : Ran → List (List ℕ × List ℕ)
  pub Says : List ℕ → Ran → List ℕ → Type 0

-- two descriptions make a chain, which runs over a stream, and the image of its memory is written
pub record ChainMeaning : Type 0 where
  pub one : List ℕ
  pub two : List ℕ
  pub stream : List ℕ
  pub image : List ℕ

-- something else is made of the contents of the inputs; `text` is its text, where that is the same whatever the contents
pub record OtherMeaning : Type 1 where
  pub sources : List Source
  pub makes : List (List ℕ) → Product → Type 0
  pub text : Option (List ℕ)

pub data Meaning : Type 1 where
  RunsProgram : RunMeaning → Meaning
  RunsChain : ChainMeaning → Meaning
  MakesOther : OtherMeaning → Meaning

-- the inputs, in the order in which they are read
abbrev pub sources : Meaning → List Source
sources (RunsProgram r) = r.source ∷ r.stream ∷ []
sources (RunsChain c) = FirstDescription c.one ∷ SecondDescription c.one c.two ∷ Stream true c.stream ∷ []
sources (MakesOther o) = o.sources

abbrev pub ListingOf : List (List ℕ) → Product → Type 0
ListingOf (program ∷ []) product = IsListed program product.text
ListingOf _ product = ⊥

abbrev pub VerdictOf : List (List ℕ) → Product → Type 0
VerdictOf (program ∷ []) product = HoldsSound program
VerdictOf _ product = ⊥

-- What a run over a stream makes: `files` has the files of what ran, and `Says` which text is printed of it and of the file that
-- it came from.
abbrev pub RunOf : (List ℕ → RiscProgram → ℕ → Type 0) → (Ran → List (List ℕ × List ℕ)) → (List ℕ → Ran → List ℕ → Type 0) → List (List ℕ) →
    Product → Type 0
RunOf Gives files Says (file ∷ stream ∷ []) product =
    (r : Ran) × IsRun Gives file stream r × RunMakes (files r) (Says file r) product r
RunOf Gives files Says _ product = ⊥

-- the files of a run: none, the image, or the program file and the image
abbrev pub no_file : Ran → List (List ℕ × List ℕ)
no_file r = []

abbrev pub image_of_run : List ℕ → Ran → List (List ℕ × List ℕ)
image_of_run image r = image_file image r ∷ []

abbrev pub program_and_image : List ℕ → List ℕ → Ran → List (List ℕ × List ℕ)
program_and_image program image r = program_file program r.program r.fill ∷ image_file image r ∷ []

abbrev pub ChainOf : List ℕ → List (List ℕ) → Product → Type 0
ChainOf image (first ∷ second ∷ stream ∷ []) product = (r : LiveRan) × IsLiveRun first second stream r × ChainMakes image product r
ChainOf image _ product = ⊥

-- what is made of a description, by the file and the text for it
abbrev pub MadeOf : (Desc → List ℕ × List ℕ) → (Desc → List ℕ) → List (List ℕ) → Product → Type 0
MadeOf file text (desc ∷ []) product = DescMakes file text product desc
MadeOf file text _ product = ⊥

abbrev pub AssembledOf : List ℕ → List (List ℕ) → Product → Type 0
AssembledOf program (text ∷ []) product = ListingMakes program product text
AssembledOf program _ product = ⊥

-- what a check makes: the program is sound and shows each described field, and this is what is printed of them
abbrev pub CheckOf : List (List ℕ) → Product → Type 0
CheckOf (program ∷ desc ∷ []) product = FindsBy program desc true product.text
CheckOf _ product = ⊥

-- what is made of the contents of the inputs
abbrev pub makes : Meaning → List (List ℕ) → Product → Type 0
makes (RunsProgram r) contents product = RunOf r.Gives r.files r.Says contents product
makes (RunsChain c) contents product = ChainOf c.image contents product
makes (MakesOther o) contents product = o.makes contents product

abbrev pub its_text : Meaning → Option (List ℕ)
its_text (RunsProgram r) = None
its_text (RunsChain c) = None
its_text (MakesOther o) = o.text

-- what is made of one input, without a text that is always the same
abbrev pub made_of : Source → (List (List ℕ) → Product → Type 0) → Meaning
made_of source Makes = MakesOther (record { sources = source ∷ []; makes = Makes; text = None })

-- a text of its own, of no input
abbrev pub prints_alone : List ℕ → Meaning
prints_alone text = MakesOther (record { sources = []; makes = λ contents product. ⊤; text = Some text })

abbrev pub meaning : Task → Meaning
meaning (command.List program) = made_of (Program program.now) ListingOf
meaning (command.Verify program) =
    MakesOther (record { sources = SoundProgram program.now ∷ []; makes = VerdictOf; text = Some accepted_text })
meaning (command.Run program stream image) =
    RunsProgram (record {
      source = SoundProgram program.now;
      stream = Stream false stream.now;
      Gives = GivesSound;
      files = image_of_run image.now;
      Says = Reports;
    })
meaning (command.Compile desc program) =
    made_of (Description desc.now) (MadeOf (λ d. program_file program.now (compiled d) d.fill) compiled_text)
meaning (command.Capture desc stream program image) =
    RunsProgram (record {
      source = Description desc.now;
      stream = Stream false stream.now;
      Gives = GivesCompiled;
      files = program_and_image program.now image.now;
      Says = Reports;
    })
meaning (command.Make desc seed frames stream) =
    made_of (Description desc.now)
    (MadeOf (λ d. (stream.now, made d seed frames)) (λ d. made_text (made_fields d frames) (made_entries d frames)))
meaning (command.Chain one two stream image) =
    RunsChain (record { one = one.now; two = two.now; stream = stream.now; image = image.now })
meaning (command.Damage desc stream) =
    RunsProgram
    (record { source = Description desc.now; stream = Stream false stream.now; Gives = GivesCompiled; files = no_file; Says = TellsRows })
meaning (command.Ring ring stream program image) =
    RunsProgram (record {
      source = RingFile ring.now;
      stream = Stream false stream.now;
      Gives = GivesRingProgram;
      files = program_and_image program.now image.now;
      Says = ReportsBlocks;
    })
meaning (command.Assemble text program) = made_of (Listing text.now) (AssembledOf program.now)
meaning (command.Check program desc) =
    MakesOther (record { sources = SoundProgram program.now ∷ ShownDescription program.now desc.now ∷ []; makes = CheckOf; text = None })
meaning (command.Trace program stream) =
    RunsProgram
    (record { source = SoundProgram program.now; stream = KeptStream stream.now; Gives = GivesSound; files = no_file; Says = Traces })
meaning command.Help = prints_alone help_text
meaning command.Version = prints_alone version_text

-- the inputs of a task, with their judges
abbrev pub inputs_of : Task → List Input
inputs_of task = map input_of (sources (meaning task))

abbrev pub MakesBy : Meaning → Option Inputs → Product → Type 0
MakesBy m inputs product =
    OfInputs (map input_of (sources m)) inputs (λ contents. makes m contents product)
    × MatchOption (its_text m) ⊤ (λ text. product.text ≡ text)

abbrev pub Makes : Task → Option Inputs → Product → Type 0
Makes task inputs product = MakesBy (meaning task) inputs product

-- ---- the words

-- the names of the inputs and of the outputs that words without a fault give; none where the words have one
abbrev pub reads : Task → List (List ℕ)
reads task = map (λ source. (input_of source).name) (sources (meaning task))

abbrev pub names_read : Result Task UsageFault → List (List ℕ)
names_read (Err fault) = []
names_read (Ok task) = reads task

abbrev pub names_written : Result Task UsageFault → List (List ℕ)
names_written (Err fault) = []
names_written (Ok task) = writes task

-- the names that the desk tells are these
abbrev pub AreNames : List (List ℕ) → Option (List (List ℕ)) → Type 0
AreNames names told = MatchOption told ⊤ (λ known. (name : List ℕ) → is_among name known ≡ is_among name names)

-- each of these names may be used, where the desk tells which may be
abbrev pub AreAllowed : List (List ℕ) → Option (List (List ℕ)) → Type 0
AreAllowed [] told = ⊤
AreAllowed (name ∷ names) told = IsAllowed name told × AreAllowed names told

-- why it is refused
abbrev pub Stops : Task → Refusal → Seen → Seen → Type 0
Stops task refusal old new = StopsIn (inputs_of task) refusal old new

-- ---- the order of work

-- all inputs were opened once and read through, one after the other, each found good before the next was opened; then
-- the outputs were written, one after the other, and a text was printed
abbrev pub IsWholeWork : Task → Option Inputs → List ℕ → List Call → Type 0
IsWholeWork task told text calls =
    (taking : List Call) × AreTaken (inputs_of task) told taking × (calls ≡ taking ++ delivery (writes task) text)

-- the same, but that a write, a call of `say`, or the creation or finish of an output failed; no call follows
abbrev pub IsPartOfWork : Task → Option Inputs → List Call → Type 0
IsPartOfWork task told calls =
    (taking writing : List Call) × AreTaken (inputs_of task) told taking × IsDeliveryPart (writes task) writing
    × (calls ≡ taking ++ writing)

-- some inputs were opened and read through, up to the one that stopped; then a text was printed, by one run of calls
abbrev pub IsRefusedWork : Task → Refusal → Option Inputs → List ℕ → List Call → Type 0
IsRefusedWork task refusal told text calls =
    (taking : List Call) × AreTakenUpTo (inputs_of task) refusal told taking × (calls ≡ taking ++ said_by text)

-- ---- what comes of it

-- a product that a task makes of its inputs, with the names of its outputs
pub record IsProduct (task : Task) (inputs : Option Inputs) (product : Product) : Type 0 where
  pub made : Makes task inputs product
  pub names : names_of product.files ≡ writes task

-- it was done: its outputs were written and its text was printed, and nothing else changed
pub record IsDone (task : Task) (old new : Seen) : Type 0 where
  pub product : Product
  pub made : IsProduct task old.told.inputs product
  pub left : apart new.told ≡ delivered product.files product.text (apart old.told)
  pub counts : SameCounts old new
  pub calls : Calls (IsWholeWork task old.told.inputs product.text) old new

-- it was done in part, up to a fault of the desk at a write, which was the last call
pub record IsPartDone (task : Task) (old new : Seen) : Type 0 where
  pub product : Product
  pub made : IsProduct task old.told.inputs product
  pub left : IsPart product.files product.text (apart old.told) (apart new.told)
  pub fault : IsWriteFault old new
  pub calls : Calls (IsPartOfWork task old.told.inputs) old new

-- it was refused: nothing changed but that the refusal's text was printed; a call at reading failed only where the refusal
-- is `ReadFault`
pub record IsRefused (task : Task) (refusal : Refusal) (old new : Seen) : Type 0 where
  pub why : Stops task refusal old new
  pub reads : KeepsReads refusal old new
  pub said : Says (answer_text (answer_of refusal)) old new
  pub calls : Calls (IsRefusedWork task refusal old.told.inputs (answer_text (answer_of refusal))) old new

abbrev pub Ends : Task → Answer → Seen → Seen → Type 0
Ends task Done old new = IsDone task old new
Ends task WriteFault old new = IsPartDone task old new
Ends task (Usage fault) old new = ⊥
Ends task answer old new = (refusal : Refusal) × (answer ≡ answer_of refusal) × IsRefused task refusal old new

-- what comes of the words: where they have a fault, only its text
abbrev pub Answers : Result Task UsageFault → Answer → Seen → Seen → Type 0
Answers (Err fault) answer old new = (answer ≡ Usage fault) × SaysAtOnce (answer_text (Usage fault)) old new
Answers (Ok task) answer old new = Ends task answer old new
