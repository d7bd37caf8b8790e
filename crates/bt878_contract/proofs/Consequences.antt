-- What the top call promises, one by one, follows from its one exact clause.
use Rattle.std.specs.Prelude.{⊤}
use Rattle.std.proofs.Common.{true, ◌≡◌, ◌<◌, arith, ℕ, ◌⊎◌, inl, inr, false, List, [], ◌∷◌, Option, Result, Ok, Err, All, refl, sym, ap}
use Rattle.std.proofs.Common.{subst, ◌∙◌}
use Rattle.bt878_words.specs.declared.Task.{Task}
use Rattle.bt878_words.specs.declared.Task.TheVariants as command
use Rattle.bt878_words.specs.declared.UsageFault.{UsageFault}
use Rattle.bt878_words.specs.Words.{Word, task_of, writes}
use Rattle.capture_desk.specs.Desks.{Inputs, Seen, Tells, is_among, said_by}
use Rattle.capture_desc.specs.declared.desc.Desc.{Desc}
use Rattle.machine_model.specs.Paths.{RiscProgram, IsSound}
use Rattle.machine_model.specs.Safety.{IsStep}
use Rattle.machine_model.specs.States.{State, first_state}
use Rattle.machine_model.specs.Steps as machine
use Rattle.capture_file.specs.declared.program.ProgramFile.{ProgramFile}
use Rattle.capture_file.specs.Programs.{program_of, spelled}
use Rattle.capture_file.specs.Streams.{steps_of, steps_run}
use Rattle.picture_model.specs.Programs.{compiled}
use Rattle.field_stream.specs.Made.{made, made_entries, made_fields}
use Rattle.risc_listing.specs.Listings.{listing}
use Rattle.command_texts.specs.declared.answer.Answer.{Answer}
use Rattle.command_texts.specs.declared.answer.Answer.TheVariants.{Done, Usage, ReadFault, WriteFault, Malformed, BadDesc, BadGeometry}
use Rattle.command_texts.specs.declared.answer.Answer.TheVariants.{BadChain, BadRing, BadText, Rejected, Differs, NoMemory}
use Rattle.command_texts.specs.declared.refusal.Refusal.{Refusal}
use Rattle.command_texts.specs.declared.refusal.Refusal.TheVariants as refusal
use Rattle.command_texts.specs.Answers.{answer_of}
use Rattle.command_steps.specs.Outputs.{EndsAtFault, Product, Says, delivered}
use Rattle.command_steps.specs.Inputs.{AreGood, KeepsReads, OfInput, SameCounts, ReadsRose, WritesRose, apart}
use Rattle.command_texts.specs.Texts.{answer_text, help_text, made_text, version_text}
use Rattle.stream_play.specs.Plays.{longest_stream}
use Rattle.command_inputs.specs.Programs.{GivesSound}
use Rattle.bt878_contract.specs.Tasks.{IsListed}
use Rattle.chain_model.specs.Chains.{Chain}
use Rattle.chain_model.specs.Live.{LiveStep}
use Rattle.chain_law.specs.Runs.{KeepsLivePromises}
use Rattle.stream_play.specs.Runs.{IsRun, LiveRan, OfRun, Ran, chain_ran, live_steps_of}
use Rattle.stream_play.proofs.Fitting.{all_fit, steps_fit}
use Rattle.command_steps.proofs.Inputs.{OfInput-map}
use Rattle.command_inputs.specs.Descriptions.{GivesCompiled, GivesDescribed}
use Rattle.command_inputs.specs.Listings.{GivesAssembled}
use Rattle.command_inputs.specs.Checked.{FindsBy}
use Rattle.command_inputs.specs.Rings.{GivesRing, GivesRingProgram}
use Rattle.ring_model.specs.Rings.{Ring}
use Rattle.bt878_contract.specs.Tasks.{Answers, ChainOf, DescMakes, Ends, IsDone, IsLiveRun, IsPartDone, IsRefused, ListingMakes, MakesBy}
use Rattle.bt878_contract.specs.Tasks.{Meaning, MakesOther, Reports, ReportsBlocks, RunsChain, RunsProgram}
use Rattle.bt878_contract.specs.Tasks.{RunMakes, RunOf, TellsRows, Traces, compiled_text, image_of_run, input_of, inputs_of, meaning}
use Rattle.bt878_contract.specs.Tasks.{names_read, names_written, no_file, program_and_image, program_file, program_text, sources}
use Rattle.bt878_contract.specs.Clauses.{AreTold, CreatesNone, IsAssembled, IsBadInput, IsCompiled, IsCut, IsInOrder, IsGenerated, IsGood}
use Rattle.bt878_contract.specs.Clauses.{IsOutput, IsRefusal, IsUnreadOf, IsUsage, OfDesc, OfDescRun}
use Rattle.slot_chain.proofs.Pairs.{are_fragments, is as is_chain, shows}
use Rattle.slot_chain.proofs.Promising.{plays_are_live}
use Rattle.chain_damage.specs.Rows.{LiveRunHoldsWholeRows}
use Rattle.chain_damage.proofs.Held.{live_runs_hold_whole_rows}
use Rattle.bt878_contract.specs.Chains.{HasFragments}
use Rattle.bt878_contract.specs.Clauses.{IsShort, LacksFirst, LacksInput}
use Rattle.bt878_contract.specs.Clauses.{OfLive, OfLiveBy, OfLiveRun, OfLiveSteps, OfRan, OfRanBy, OfRingRun, OfSteps, OnlyOutputs}
use Rattle.bt878_contract.specs.Clauses.{OnlySays, SameNames, SameOutput, SaysAccepted, SaysAll, SaysAlone, SaysBlocks, SaysChecked}
use Rattle.bt878_contract.specs.Clauses.{SaysDamage, SaysTrace}
use Rattle.bt878_contract.specs.Clauses.{SaysListing, ShowsImage, ShowsLast, ShowsLastLive, ShowsProgram, StandsAt, StaysInside, TellsInput}
use Rattle.bt878_contract.specs.Clauses.{UnlessCut}
use Rattle.bt878_contract.proofs.Words.{outputs_apart}
use Rattle.bt878_contract.proofs.Inputs.{both-map, taken_are_good, three-map}
use Rattle.bt878_contract.proofs.Judges.{bad_in, bad_leads, good_leads, good_not_bad, judged, unread_in}
use Rattle.bt878_contract.proofs.Missing.{first_is_kept, good_not_missing, head_is_first, head_leads, missing_leads}
use Rattle.bt878_contract.proofs.Outputs.{AreApart, AreOutputs, all_said, all_written, cut_off, done_names, done_other, no_files, only_says}
use Rattle.bt878_contract.proofs.Outputs.{part_done_other, part_names, rises, said_names, same_outputs, says_only}

-- ---- the words

pub usage_comes : (r : Result Task UsageFault) (answer : Answer) (old new : Seen) → Answers r answer old new → IsUsage r answer
usage_comes (Err fault) answer old new h = h.0
usage_comes (Ok task) answer old new h = λ fault is. subst (λ a. Ends task a old new) is h

-- ---- at Done

at_answer : (task : Task) (answer wanted : Answer) (old new : Seen) → Ends task answer old new → answer ≡ wanted → Ends task wanted old new
at_answer task answer wanted old new h e = subst (λ a. Ends task a old new) e h

done_by : (task : Task) (answer : Answer) (old new : Seen) → Ends task answer old new → answer ≡ Done → IsDone task old new
done_by task answer old new h e = at_answer task answer Done old new h e

pub done_counts : (r : Result Task UsageFault) (answer : Answer) (old new : Seen) → Answers r answer old new → answer ≡ Done →
    SameCounts old new
done_counts (Err fault) answer old new h e = let usage = h.0 in absurd (cc)
done_counts (Ok task) answer old new h e = (done_by task answer old new h e).counts

-- what follows from the runs that commands make, over the steps of the whole stream
module _ (Q : Ran → Type 0) (f : (files : List (List ℕ × List ℕ)) (Says : List ℕ → Type 0) (product : Product) (stream : List ℕ) (r : Ran) →
    steps_of longest_stream false stream ≡ Ok r.steps → RunMakes files Says product r → Q r) where
  of_run : (Gives : List ℕ → RiscProgram → ℕ → Type 0) (files : Ran → List (List ℕ × List ℕ)) (Says : List ℕ → Ran → List ℕ → Type 0)
      (product : Product) (file stream : List ℕ) (inputs : Option Inputs) →
      OfInput file inputs (λ a. OfInput stream inputs (λ b. RunOf Gives files Says (a ∷ b ∷ []) product)) → OfRun Gives file stream inputs Q
  of_run Gives files Says product file stream inputs h =
      both-map file stream inputs (λ a b. RunOf Gives files Says (a ∷ b ∷ []) product) (λ a b. (r : Ran) × IsRun Gives a b r × Q r)
      (λ a b m. (m.0, m.1, f (files m.0) (Says a m.0) product b m.0 m.1.reads m.2)) h

  ran_of : (m : Meaning) (inputs : Option Inputs) (product : Product) → MakesBy m inputs product → OfRanBy m inputs Q
  ran_of (RunsProgram r) inputs product h =
      of_run r.Gives r.files r.Says product (input_of r.source).name (input_of r.stream).name inputs h.0
  ran_of (RunsChain c) inputs product h = tt
  ran_of (MakesOther o) inputs product h = tt

  ran_by : (r : Result Task UsageFault) (answer : Answer) (old new : Seen) → Answers r answer old new → answer ≡ Done →
      OfRan r old.told.inputs Q
  ran_by (Ok task) answer old new h e =
      let d = done_by task answer old new h e in
      ran_of (meaning task) old.told.inputs d.product d.made.made
  ran_by (Err fault) answer old new h e = let usage = h.0 in absurd (cc)

module _ (P : Ran → Type 0) (always : (files : List (List ℕ × List ℕ)) (Says : List ℕ → Type 0) (product : Product) (r : Ran) →
    RunMakes files Says product r → P r) where
  pub done_ran : (r : Result Task UsageFault) (answer : Answer) (old new : Seen) → Answers r answer old new → answer ≡ Done →
      OfRan r old.told.inputs P
  done_ran = ran_by P (λ files Says product stream r reads m. always files Says product r m)

pub done_inside : (r : Result Task UsageFault) (answer : Answer) (old new : Seen) → Answers r answer old new → answer ≡ Done →
    OfRan r old.told.inputs StaysInside
done_inside = done_ran StaysInside (λ files Says product r m. m.inside)

-- what is so of every first state and all steps that a decoder makes
module _ (P : State → List machine.Step → Type 0)
    (always : (program : RiscProgram) (fill : ℕ) (steps : List machine.Step) → All IsStep steps → P (first_state program fill) steps) where
  pub done_captured : (r : Result Task UsageFault) (answer : Answer) (old new : Seen) → Answers r answer old new → answer ≡ Done →
      OfRan r old.told.inputs (OfSteps P)
  done_captured =
      ran_by (OfSteps P)
      (λ files Says product stream r reads m. always r.program r.fill (steps_run r.steps) (steps_fit stream r.steps reads))

pub done_sound : (r : Result Task UsageFault) (answer : Answer) (old new : Seen) → Answers r answer old new → answer ≡ Done →
    OfRan r old.told.inputs (λ ran. IsSound ran.program)
done_sound = done_ran (λ ran. IsSound ran.program) (λ files Says product ran m. m.sound)

-- what is so of every live run that `chain` makes
module _ (P : LiveRan → Type 0) (always : (a b c : List ℕ) (r : LiveRan) → IsLiveRun a b c r →
    KeepsLivePromises (chain_ran r) r.first.fill (live_steps_of r) → P r) where
  live_of : (m : Meaning) (inputs : Option Inputs) (product : Product) → MakesBy m inputs product → OfLiveBy m inputs P
  live_of (RunsProgram r) inputs product h = tt
  live_of (RunsChain chain) inputs product h =
      three-map chain.one chain.two chain.stream inputs (λ a b c. ChainOf chain.image (a ∷ b ∷ c ∷ []) product)
      (λ a b c. (r : LiveRan) × IsLiveRun a b c r × P r)
      (λ a b c m. (m.0, m.1, always a b c m.0 m.1 m.2.promises)) h.0
  live_of (MakesOther o) inputs product h = tt

  live_by : (r : Result Task UsageFault) (answer : Answer) (old new : Seen) → Answers r answer old new → answer ≡ Done →
      OfLive r old.told.inputs P
  live_by (Ok task) answer old new h e =
      let d = done_by task answer old new h e in
      live_of (meaning task) old.told.inputs d.product d.made.made
  live_by (Err fault) answer old new h e = tt

-- what follows from its promises alone
module _ (P : Chain → ℕ → List LiveStep → Type 0)
    (promised : (chain : Chain) (fill : ℕ) (steps : List LiveStep) → KeepsLivePromises chain fill steps → P chain fill steps) where
  pub done_live : (r : Result Task UsageFault) (answer : Answer) (old new : Seen) → Answers r answer old new → answer ≡ Done →
      OfLive r old.told.inputs (OfLiveSteps P)
  done_live = live_by (OfLiveSteps P) (λ a b c r is kept. promised (chain_ran r) r.first.fill (live_steps_of r) kept)

-- each row that is whole at a signal holds its line
pub done_live_rows : (r : Result Task UsageFault) (answer : Answer) (old new : Seen) → Answers r answer old new → answer ≡ Done →
    OfLive r old.told.inputs (OfLiveSteps LiveRunHoldsWholeRows)
done_live_rows =
    live_by (OfLiveSteps LiveRunHoldsWholeRows)
    (λ a b c r is kept.
    live_runs_hold_whole_rows (chain_ran r) r.first.fill (live_steps_of r) (is_chain r.first r.second is.gives.pair)
    (are_fragments r.first r.second is.gives.pair)
    (plays_are_live r.first r.second r.steps (all_fit true c r.steps is.reads)))

-- its parts are the fragments of its descriptions
pub done_fragments : (r : Result Task UsageFault) (answer : Answer) (old new : Seen) → Answers r answer old new → answer ≡ Done →
    OfLive r old.told.inputs HasFragments
done_fragments = live_by HasFragments (λ a b c r is kept slot buffer. shows r.first r.second is.gives.pair slot buffer)

-- its files and its text are there, and nothing else is created
module _ (task : Task) (old new : Seen) (d : IsDone task old new) where
  its_text : SaysAll d.product.text old.told new.told
  its_text = all_said d.product.files d.product.text old.told new.told d.left

  its_files : AreApart (writes task) → AreOutputs d.product.files new.told.outputs
  its_files h = all_written d.product.files d.product.text old.told new.told d.left (subst AreApart (sym d.made.names) h)

  its_text_alone : writes task ≡ [] → CreatesNone old.told new.told
  its_text_alone none =
      (says_only d.product.text old.told new.told
      (d.left ∙ ap (λ files. delivered files d.product.text (apart old.told)) (no_files d.product.files (d.made.names ∙ none)))).0

  -- the files of a run, and a text that is printed of it
  its_run : (files : List (List ℕ × List ℕ)) (Says : List ℕ → Type 0) (r : Ran) → AreApart (writes task) → RunMakes files Says d.product r →
      AreOutputs files new.told.outputs
  its_run files Says r h m = subst (λ fs. AreOutputs fs new.told.outputs) m.writes (its_files h)

  its_words : (text : List ℕ) → d.product.text ≡ text → SaysAll text old.told new.told
  its_words text e = subst (λ t. SaysAll t old.told new.told) e its_text

  its_desc : (file : Desc → List ℕ × List ℕ) (text : Desc → List ℕ) (desc : List ℕ) → AreApart (writes task) →
      OfInput desc old.told.inputs (DescMakes file text d.product) →
      OfDesc desc old.told.inputs (λ c. IsOutput (file c).0 (file c).1 new.told.outputs × SaysAll (text c) old.told new.told)
  its_desc file text desc h made =
      OfInput-map desc old.told.inputs (DescMakes file text d.product) _
      (λ bytes m. (
        m.description,
        m.describes,
        ((subst (λ fs. AreOutputs fs new.told.outputs) m.writes (its_files h)).0, subst (λ t. SaysAll t old.told new.told) m.says its_text),
      ))
      made

-- ---- each command, at Done

module _ (words : List Word) (answer : Answer) (old new : Seen) (h : Answers (task_of words) answer old new) (e : answer ≡ Done) where
  -- what words for a task come to
  task_done : (task : Task) → task_of words ≡ Ok task → IsDone task old new
  task_done task is = done_by task answer old new (subst (λ r. Answers r answer old new) is h) e

  -- their outputs have different names
  distinct : (task : Task) → task_of words ≡ Ok task → AreApart (writes task)
  distinct task is = outputs_apart words task is

  pub done_run : (program stream image : Word) → task_of words ≡ Ok (command.Run program stream image) →
      OfRun GivesSound program.now stream.now old.told.inputs (ShowsLast image.now old.told new.told)
  done_run program stream image is =
      let task = command.Run program stream image in
      let d = task_done task is in
      both-map program.now stream.now old.told.inputs (λ a b. RunOf GivesSound (image_of_run image.now) Reports (a ∷ b ∷ []) d.product)
      (λ a b. (r : Ran) × IsRun GivesSound a b r × ShowsLast image.now old.told new.told r)
      (λ a b m. (
        m.0,
        m.1,
        (
          (its_run task old new d (image_of_run image.now m.0) (Reports a m.0) m.0 (distinct task is) m.2).0,
          its_words task old new d _ m.2.says,
        ),
      )) d.made.made.0

  -- the program file and the image of a run
  its_program_and_image : (task : Task) (d : IsDone task old new) (program image : List ℕ) (Says : List ℕ → Type 0) (r : Ran) →
      AreApart (writes task) → RunMakes (program_and_image program image r) Says d.product r →
      ShowsProgram program new.told r × ShowsImage image new.told r
  its_program_and_image task d program image Says r h m =
      let written = its_run task old new d (program_and_image program image r) Says r h m in (written.0, written.1.0)

  pub done_capture : (desc stream program image : Word) → task_of words ≡ Ok (command.Capture desc stream program image) →
      OfRun GivesCompiled desc.now stream.now old.told.inputs
      (λ r. ShowsProgram program.now new.told r × ShowsLast image.now old.told new.told r)
  done_capture desc stream program image is =
      let task = command.Capture desc stream program image in
      let d = task_done task is in
      both-map desc.now stream.now old.told.inputs
      (λ a b. RunOf GivesCompiled (program_and_image program.now image.now) Reports (a ∷ b ∷ []) d.product)
      (λ a b. (r : Ran) × IsRun GivesCompiled a b r × (ShowsProgram program.now new.told r × ShowsLast image.now old.told new.told r))
      (λ a b m.
      let written = its_program_and_image task d program.now image.now (Reports a m.0) m.0 (distinct task is) m.2 in
      (m.0, m.1, (written.0, (written.1, its_words task old new d _ m.2.says))))
      d.made.made.0

  pub done_chain : (one two stream image : Word) → task_of words ≡ Ok (command.Chain one two stream image) →
      OfLiveRun one.now two.now stream.now old.told.inputs (ShowsLastLive image.now old.told new.told)
  done_chain one two stream image is =
      let task = command.Chain one two stream image in
      let d = task_done task is in
      three-map one.now two.now stream.now old.told.inputs (λ a b c. ChainOf image.now (a ∷ b ∷ c ∷ []) d.product)
      (λ a b c. (r : LiveRan) × IsLiveRun a b c r × ShowsLastLive image.now old.told new.told r)
      (λ a b c m.
      let written = subst (λ fs. AreOutputs fs new.told.outputs) m.2.writes (its_files task old new d (distinct task is)) in
      (m.0, m.1, (written.0, its_words task old new d _ m.2.says))) d.made.made.0

  pub done_damage : (desc stream : Word) → task_of words ≡ Ok (command.Damage desc stream) →
      OfDescRun desc.now stream.now old.told.inputs (SaysDamage old.told new.told)
  done_damage desc stream is =
      let task = command.Damage desc stream in
      let d = task_done task is in
      both-map desc.now stream.now old.told.inputs (λ a b. RunOf GivesCompiled no_file TellsRows (a ∷ b ∷ []) d.product)
      (λ a b. (x : Desc) × (r : Ran) × IsRun (GivesDescribed x) a b r × SaysDamage old.told new.told x r)
      (λ a b m.
      let says = m.2.says in (
        says.description,
        m.0,
        record { gives = says.gives; reads = m.1.reads },
        (its_words task old new d _ says.says, its_text_alone task old new d refl),
      ))
      d.made.made.0

  pub done_trace : (program stream : Word) → task_of words ≡ Ok (command.Trace program stream) →
      OfRun GivesSound program.now stream.now old.told.inputs (SaysTrace old.told new.told)
  done_trace program stream is =
      let task = command.Trace program stream in
      let d = task_done task is in
      both-map program.now stream.now old.told.inputs (λ a b. RunOf GivesSound no_file Traces (a ∷ b ∷ []) d.product)
      (λ a b. (r : Ran) × IsRun GivesSound a b r × SaysTrace old.told new.told r)
      (λ a b m. (m.0, m.1, (its_words task old new d _ m.2.says, its_text_alone task old new d refl))) d.made.made.0

  pub done_help : task_of words ≡ Ok command.Help → SaysAlone help_text old.told new.told
  done_help is =
      let task = command.Help in
      let d = task_done task is in (its_words task old new d help_text d.made.made.1, its_text_alone task old new d refl)

  pub done_version : task_of words ≡ Ok command.Version → SaysAlone version_text old.told new.told
  done_version is =
      let task = command.Version in
      let d = task_done task is in (its_words task old new d version_text d.made.made.1, its_text_alone task old new d refl)

  pub done_ring : (ring stream program image : Word) → task_of words ≡ Ok (command.Ring ring stream program image) →
      OfRingRun ring.now stream.now old.told.inputs
      (λ x r. ShowsProgram program.now new.told r × ShowsImage image.now new.told r × SaysBlocks old.told new.told x r)
  done_ring ring stream program image is =
      let task = command.Ring ring stream program image in
      let d = task_done task is in
      both-map ring.now stream.now old.told.inputs
      (λ a b. RunOf GivesRingProgram (program_and_image program.now image.now) ReportsBlocks (a ∷ b ∷ []) d.product)
      (λ a b. (x : Ring) × (r : Ran) × IsRun (GivesRing x) a b r
      × (ShowsProgram program.now new.told r × ShowsImage image.now new.told r × SaysBlocks old.told new.told x r))
      (λ a b m.
      let written = its_program_and_image task d program.now image.now (ReportsBlocks a m.0) m.0 (distinct task is) m.2 in
      let says = m.2.says in
      (says.ring, m.0, record { gives = says.gives; reads = m.1.reads }, (written.0, written.1, its_words task old new d _ says.says)))
      d.made.made.0

  pub done_compile : (desc program : Word) → task_of words ≡ Ok (command.Compile desc program) →
      IsCompiled desc.now program.now old.told new.told
  done_compile desc program is =
      let task = command.Compile desc program in
      let d = task_done task is in
      its_desc task old new d (λ c. program_file program.now (compiled c) c.fill) compiled_text desc.now (distinct task is) d.made.made.0

  pub done_make : (desc : Word) (seed frames : ℕ) (stream : Word) → task_of words ≡ Ok (command.Make desc seed frames stream) →
      IsGenerated desc.now seed frames stream.now old.told new.told
  done_make desc seed frames stream is =
      let task = command.Make desc seed frames stream in
      let d = task_done task is in
      its_desc task old new d (λ c. (stream.now, made c seed frames))
      (λ c. made_text (made_fields c frames) (made_entries c frames)) desc.now (distinct task is) d.made.made.0

  pub done_assemble : (text program : Word) → task_of words ≡ Ok (command.Assemble text program) →
      IsAssembled text.now program.now old.told new.told
  done_assemble text program is =
      let task = command.Assemble text program in
      let d = task_done task is in
      OfInput-map text.now old.told.inputs (ListingMakes program.now d.product)
      (λ bytes. (file : ProgramFile) × GivesAssembled bytes file
      × IsOutput program.now (spelled file.program file.fill) new.told.outputs × SaysAll (program_text file.program) old.told new.told)
      (λ bytes m. (
        m.file,
        m.assembles,
        (subst (λ fs. AreOutputs fs new.told.outputs) m.writes (its_files task old new d (distinct task is))).0,
        subst (λ t. SaysAll t old.told new.told) m.says (its_text task old new d),
      ))
      d.made.made.0

  pub done_verify : (program : Word) → task_of words ≡ Ok (command.Verify program) → SaysAccepted program.now old.told new.told
  done_verify program is =
      let task = command.Verify program in
      let d = task_done task is in (
        d.made.made.0,
        subst (λ text. SaysAll text old.told new.told) d.made.made.1 (its_text task old new d),
        its_text_alone task old new d refl,
      )

  pub done_check : (program desc : Word) → task_of words ≡ Ok (command.Check program desc) →
      SaysChecked program.now desc.now old.told new.told
  done_check program desc is =
      let task = command.Check program desc in
      let d = task_done task is in (
        both-map program.now desc.now old.told.inputs (λ a b. FindsBy a b true d.product.text)
            (λ a b. (text : List ℕ) × FindsBy a b true text × SaysAll text old.told new.told)
            (λ a b found. (d.product.text, found, its_text task old new d)) d.made.made.0,
        its_text_alone task old new d refl,
      )

  pub done_list : (program : Word) → task_of words ≡ Ok (command.List program) → SaysListing program.now old.told new.told
  done_list program is =
      let task = command.List program in
      let d = task_done task is in (
        OfInput-map program.now old.told.inputs (λ bytes. IsListed bytes d.product.text)
            (λ bytes. (file : ProgramFile) × (program_of bytes ≡ Ok file) × SaysAll (listing file.program file.fill) old.told new.told)
            (λ bytes lists. (lists.0, lists.1, subst (λ text. SaysAll text old.told new.told) lists.2 (its_text task old new d)))
            d.made.made.0,
        its_text_alone task old new d refl,
      )

-- ---- why it is refused

-- it was done, in whole or in part, or it was refused
by_end : (task : Task) (answer : Answer) (old new : Seen) (P : Answer → Type 0) → (IsDone task old new → P Done) →
    (IsPartDone task old new → P WriteFault) →
    ((refusal : Refusal) → IsRefused task refusal old new → P (answer_of refusal)) → Ends task answer old new → P answer
by_end task Done old new P done part refused h = done h
by_end task WriteFault old new P done part refused h = part h
by_end task (Usage fault) old new P done part refused h = absurd h
by_end task answer old new P done part refused h = subst P (sym h.1) (refused h.0 h.2)

-- no two refusals have the same answer
refusal_in : Answer → Refusal
refusal_in ReadFault = refusal.ReadFault
refusal_in (Malformed file fault) = refusal.Malformed file fault
refusal_in (BadDesc fault) = refusal.BadDesc fault
refusal_in (BadGeometry fault) = refusal.BadGeometry fault
refusal_in (BadChain fault) = refusal.BadChain fault
refusal_in (BadRing fault) = refusal.BadRing fault
refusal_in (BadText fault) = refusal.BadText fault
refusal_in (Rejected at nth cause) = refusal.Rejected at nth cause
refusal_in (Differs text) = refusal.Differs text
refusal_in answer = refusal.NoMemory

refusal_back : (r : Refusal) → refusal_in (answer_of r) ≡ r
unfolding refusal_in
refusal_back refusal.ReadFault = refl
refusal_back (refusal.Malformed file fault) = refl
refusal_back (refusal.BadDesc fault) = refl
refusal_back (refusal.BadGeometry fault) = refl
refusal_back (refusal.BadChain fault) = refl
refusal_back (refusal.BadRing fault) = refl
refusal_back (refusal.BadText fault) = refl
refusal_back (refusal.Rejected at nth cause) = refl
refusal_back (refusal.Differs text) = refl
refusal_back refusal.NoMemory = refl

one_refusal : (a b : Refusal) → answer_of a ≡ answer_of b → a ≡ b
one_refusal a b e = sym (refusal_back a) ∙ ap refusal_in e ∙ refusal_back b

-- Done, WriteFault and Usage are the answer of no refusal
abbrev IsOther : Answer → Type 0
IsOther Done = ⊥
IsOther WriteFault = ⊥
IsOther (Usage fault) = ⊥
IsOther _ = ⊤

is_other : (r : Refusal) → IsOther (answer_of r)
is_other refusal.ReadFault = tt
is_other (refusal.Malformed file fault) = tt
is_other (refusal.BadDesc fault) = tt
is_other (refusal.BadGeometry fault) = tt
is_other (refusal.BadChain fault) = tt
is_other (refusal.BadRing fault) = tt
is_other (refusal.BadText fault) = tt
is_other (refusal.Rejected at nth cause) = tt
is_other (refusal.Differs text) = tt
is_other refusal.NoMemory = tt

-- a refusal's answer comes of that refusal
refused_by : (task : Task) (answer : Answer) (old new : Seen) → Ends task answer old new → (r : Refusal) → answer ≡ answer_of r →
    IsRefused task r old new
refused_by task answer old new h r =
    by_end task answer old new (λ a. a ≡ answer_of r → IsRefused task r old new)
    (λ d e. absurd (subst IsOther (sym e) (is_other r)))
    (λ p e. absurd (subst IsOther (sym e) (is_other r)))
    (λ other refused e. subst (λ x. IsRefused task x old new) (one_refusal other r e) refused) h

pub read_fault_comes : (r : Result Task UsageFault) (answer : Answer) (old new : Seen) → Answers r answer old new → answer ≡ ReadFault →
    IsUnreadOf (names_read r) old new
read_fault_comes (Err fault) answer old new h e = let usage = h.0 in absurd (cc)
read_fault_comes (Ok task) answer old new h e =
    unread_in (sources (meaning task)) old new (refused_by task answer old new h refusal.ReadFault e).why

pub write_fault_comes : (r : Result Task UsageFault) (answer : Answer) (old new : Seen) → Answers r answer old new → answer ≡ WriteFault →
    WritesRose old new
write_fault_comes (Err fault) answer old new h e = let usage = h.0 in absurd (cc)
write_fault_comes (Ok task) answer old new h e = rises old.writes new.writes (at_answer task answer WriteFault old new h e).fault.1

pub bad_input_comes : (r : Result Task UsageFault) (answer : Answer) (old new : Seen) → Answers r answer old new → (why : Refusal) →
    answer ≡ answer_of why → TellsInput why →
    IsBadInput r why old.told.inputs
bad_input_comes (Err fault) answer old new h why e tells = absurd (subst IsOther (sym (sym h.0 ∙ e)) (is_other why))
bad_input_comes (Ok task) answer old new h why e tells =
    bad_in (inputs_of task) why old new tells (refused_by task answer old new h why e).why

-- ---- what an input leads to, where the desk tells it

-- what was made, whole or in part, was made of good inputs
good_at_done : (task : Task) (old new : Seen) → IsDone task old new → AreGood (inputs_of task) old.told.inputs
good_at_done task old new d = taken_are_good (inputs_of task) old.told.inputs d.calls.1.0 d.calls.1.1

good_in_part : (task : Task) (old new : Seen) → IsPartDone task old new → AreGood (inputs_of task) old.told.inputs
good_in_part task old new p = taken_are_good (inputs_of task) old.told.inputs p.calls.1.0 p.calls.1.2

pub bad_input_must : (r : Result Task UsageFault) (answer : Answer) (old new : Seen) → Answers r answer old new → AreTold old.told.inputs →
    (wanted : Refusal) →
    IsBadInput r wanted old.told.inputs → UnlessCut wanted answer old new
bad_input_must (Err fault) answer old new h told wanted bad = absurd bad
bad_input_must (Ok task) answer old new h told wanted bad =
    by_end task answer old new (λ a. UnlessCut wanted a old new)
    (λ d.
    absurd (good_not_bad (inputs_of task) (judged (sources (meaning task))) wanted old.told.inputs told (good_at_done task old new d) bad))
    (λ p.
    absurd (good_not_bad (inputs_of task) (judged (sources (meaning task))) wanted old.told.inputs told (good_in_part task old new p) bad))
    (λ r refused. bad_leads (inputs_of task) (judged (sources (meaning task))) wanted r old new told bad refused.why) h

uncut : (answer : Answer) (old new : Seen) → (ReadsRose old new → ⊥) → IsCut answer old new → (answer ≡ Done) ⊎ (answer ≡ NoMemory)
uncut answer old new quiet (inl e) = inr e
uncut answer old new quiet (inr h) = absurd (quiet h.1)

pub completes : (r : Result Task UsageFault) (answer : Answer) (old new : Seen) → Answers r answer old new → AreTold old.told.inputs →
    IsGood r old.told.inputs →
    (ReadsRose old new → ⊥) → (WritesRose old new → ⊥) → (answer ≡ Done) ⊎ (answer ≡ NoMemory)
completes (Err fault) answer old new h told good reads writes = absurd good
completes (Ok task) answer old new h told good reads writes =
    by_end task answer old new (λ a. (a ≡ Done) ⊎ (a ≡ NoMemory))
    (λ d. inl refl)
    (λ p. absurd (writes (rises old.writes new.writes p.fault.1)))
    (λ r refused.
    uncut (answer_of r) old new reads (good_leads (inputs_of task) (judged (sources (meaning task))) r old new told good refused.why)) h

-- a failed read is answered as one
kept_or_fault : (r : Refusal) (old new : Seen) → KeepsReads r old new → old.reads < new.reads → answer_of r ≡ ReadFault
kept_or_fault refusal.ReadFault old new h more = refl
kept_or_fault r old new h more = absurd (omega (arith, h, more))

pub read_fault_must : (r : Result Task UsageFault) (answer : Answer) (old new : Seen) → Answers r answer old new → old.reads < new.reads →
    answer ≡ ReadFault
read_fault_must (Err fault) answer old new h more = let same = h.1.2 in absurd (omega (arith, same, more))
read_fault_must (Ok task) answer old new h more =
    by_end task answer old new (λ a. a ≡ ReadFault)
    (λ d. let same = d.counts.0 in absurd (omega (arith, same, more)))
    (λ p. let same = p.fault.0 in absurd (omega (arith, same, more)))
    (λ r refused. kept_or_fault r old new refused.reads more) h

-- and so is an input that isn't there
fault_or_short : (r : Refusal) → (r ≡ refusal.ReadFault) ⊎ (r ≡ refusal.NoMemory) → (answer_of r ≡ ReadFault) ⊎ (answer_of r ≡ NoMemory)
fault_or_short r (inl e) = inl (ap answer_of e)
fault_or_short r (inr e) = inr (ap answer_of e)

pub missing_must : (r : Result Task UsageFault) (answer : Answer) (old new : Seen) → Answers r answer old new →
    LacksInput r old.told.inputs → (answer ≡ ReadFault) ⊎ (answer ≡ NoMemory)
missing_must (Err fault) answer old new h missing = absurd missing
missing_must (Ok task) answer old new h missing =
    by_end task answer old new (λ a. (a ≡ ReadFault) ⊎ (a ≡ NoMemory))
    (λ d. absurd (good_not_missing (inputs_of task) old.told.inputs (good_at_done task old new d) missing))
    (λ p. absurd (good_not_missing (inputs_of task) old.told.inputs (good_in_part task old new p) missing))
    (λ r refused. fault_or_short r (missing_leads (inputs_of task) (judged (sources (meaning task))) r old new missing refused.why)) h

pub first_missing_must : (r : Result Task UsageFault) (answer : Answer) (old new : Seen) → Answers r answer old new →
    LacksFirst r old.told.inputs → answer ≡ ReadFault
first_missing_must (Err fault) answer old new h missing = absurd missing
first_missing_must (Ok task) answer old new h missing =
    let first = head_is_first (inputs_of task) old.told.inputs missing in
    by_end task answer old new (λ a. a ≡ ReadFault)
    (λ d. absurd (good_not_missing (inputs_of task) old.told.inputs (good_at_done task old new d) first))
    (λ p. absurd (good_not_missing (inputs_of task) old.told.inputs (good_in_part task old new p) first))
    (λ r refused.
    ap answer_of (head_leads (inputs_of task) r old.told.inputs refused.calls.1.0 (first_is_kept task) missing refused.calls.1.1)) h

-- ---- out of memory

pub short_ends : (r : Result Task UsageFault) (answer : Answer) (old new : Seen) → Answers r answer old new → answer ≡ NoMemory →
    IsShort r old new
short_ends (Err fault) answer old new h e = let usage = h.0 in absurd (cc)
short_ends (Ok task) answer old new h e =
    let refused = refused_by task answer old new h refusal.NoMemory e in
    (only_says (answer_text NoMemory) old new refused.said, refused.reads, refused.calls)

-- ---- the order of work

pub in_order : (r : Result Task UsageFault) (answer : Answer) (old new : Seen) → Answers r answer old new → IsInOrder r answer old new
in_order (Err fault) answer old new h = subst (λ a. Tells (said_by (answer_text a)) old.calls new.calls) (sym h.0) h.1.1
in_order (Ok task) answer old new h =
    by_end task answer old new (λ a. IsInOrder (Ok task) a old new) (λ d. (d.product.text, d.calls)) (λ p. p.calls)
    (λ r refused. refused_order r refused) h
  where
    refused_order : (r : Refusal) → IsRefused task r old new → IsInOrder (Ok task) (answer_of r) old new
    refused_order refusal.ReadFault refused = (refusal.ReadFault, refl, refused.calls)
    refused_order (refusal.Malformed file fault) refused = (refusal.Malformed file fault, refl, refused.calls)
    refused_order (refusal.BadDesc fault) refused = (refusal.BadDesc fault, refl, refused.calls)
    refused_order (refusal.BadGeometry fault) refused = (refusal.BadGeometry fault, refl, refused.calls)
    refused_order (refusal.BadChain fault) refused = (refusal.BadChain fault, refl, refused.calls)
    refused_order (refusal.BadRing fault) refused = (refusal.BadRing fault, refl, refused.calls)
    refused_order (refusal.BadText fault) refused = (refusal.BadText fault, refl, refused.calls)
    refused_order (refusal.Rejected at nth cause) refused = (refusal.Rejected at nth cause, refl, refused.calls)
    refused_order (refusal.Differs text) refused = (refusal.Differs text, refl, refused.calls)
    refused_order refusal.NoMemory refused = (refusal.NoMemory, refl, refused.calls)

-- ---- what an answer leaves

pub refused_only_says : (r : Result Task UsageFault) (answer : Answer) (old new : Seen) → Answers r answer old new → IsRefusal answer →
    OnlySays (answer_text answer) old new
refused_only_says (Err fault) answer old new h is =
    subst (λ a. OnlySays (answer_text a) old new) (sym h.0) (only_says (answer_text (Usage fault)) old new h.1.0)
refused_only_says (Ok task) answer old new h is =
    by_end task answer old new (λ a. IsRefusal a → OnlySays (answer_text a) old new) (λ d none. absurd none) (λ p none. absurd none)
    (λ r refused some. only_says (answer_text (answer_of r)) old new refused.said) h is

stands_at : (task : Task) (old new : Seen) → AreApart (writes task) → IsPartDone task old new → StandsAt (Ok task) old.told new.told
stands_at task old new h p = (
  p.product,
  p.made,
  cut_off p.product.files p.product.text old.told new.told p.left (subst AreApart (sym p.made.names) h),
)

pub write_fault_stands : (words : List Word) (answer : Answer) (old new : Seen) → Answers (task_of words) answer old new →
    answer ≡ WriteFault → StandsAt (task_of words) old.told new.told
write_fault_stands words answer old new h e = by_words (task_of words) refl h
  where
    by_words : (r : Result Task UsageFault) → task_of words ≡ r → Answers r answer old new → StandsAt r old.told new.told
    by_words (Err fault) is usage = absurd (cc (usage.0))
    by_words (Ok task) is ends = stands_at task old new (outputs_apart words task is) (at_answer task answer WriteFault old new ends e)

-- no call follows one that fails at writing
says_last : (text : List ℕ) (old new : Seen) → Says text old new → EndsAtFault old new
says_last text old new (n, few, left, inl all) = inl all.1
says_last text old new (n, few, left, inr fault) = inr fault

pub ends_at_fault : (r : Result Task UsageFault) (answer : Answer) (old new : Seen) → Answers r answer old new → EndsAtFault old new
ends_at_fault (Err fault) answer old new h = says_last (answer_text (Usage fault)) old new h.1.0
ends_at_fault (Ok task) answer old new h =
    by_end task answer old new (λ a. EndsAtFault old new) (λ d. inl d.counts.1) (λ p. inr (p.fault.1, p.fault.2))
    (λ r refused. says_last (answer_text (answer_of r)) old new refused.said) h

-- the other outputs
other_by : (task : Task) (answer : Answer) (name : List ℕ) (old new : Seen) → is_among name (writes task) ≡ false →
    Ends task answer old new → SameOutput name old.told.outputs new.told.outputs
other_by task answer name old new absent h =
    by_end task answer old new (λ a. SameOutput name old.told.outputs new.told.outputs)
    (λ d. done_other d.product.files d.product.text old.told new.told d.left name
    (subst (λ names. is_among name names ≡ false) (sym d.made.names) absent))
    (λ p. part_done_other p.product.files p.product.text old.told new.told p.left name
    (subst (λ names. is_among name names ≡ false) (sym p.made.names) absent))
    (λ r refused. same_outputs name old.told new.told (only_says (answer_text (answer_of r)) old new refused.said).0) h

pub others_untouched : (r : Result Task UsageFault) (answer : Answer) (old new : Seen) → Answers r answer old new →
    OnlyOutputs (names_written r) old.told new.told
others_untouched (Err fault) answer old new h = λ name absent.
    same_outputs name old.told new.told (refused_only_says (Err fault) answer old new h (subst IsRefusal (sym h.0) tt)).0
others_untouched (Ok task) answer old new h = λ name absent. other_by task answer name old new absent h

-- the names
pub names_kept : (r : Result Task UsageFault) (answer : Answer) (old new : Seen) → Answers r answer old new → SameNames old.told new.told
names_kept (Err fault) answer old new h = said_names (answer_text (Usage fault)) old new h.1.0
names_kept (Ok task) answer old new h =
    by_end task answer old new (λ a. SameNames old.told new.told)
    (λ d. done_names d.product.files d.product.text old.told new.told d.left)
    (λ p. part_names p.product.files p.product.text (apart old.told) (apart new.told) p.left)
    (λ r refused. said_names (answer_text (answer_of r)) old new refused.said) h
