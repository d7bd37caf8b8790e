-- Why an input is not taken: an input that the desk tells is bad in one way only, and a good one isn't bad.
use Rattle.std.proofs.Common.{false, true, ◌≡◌, ℕ, ◌<◌, ◌⊎◌, inl, inr, Bool, List, [], ◌∷◌, map, Option, Result, Ok, Err, refl, sym, ap}
use Rattle.std.proofs.Common.{subst, ◌∙◌, arith}
use Rattle.capture_desk.specs.Desks.{HasRisen, Inputs, Seen}
use Rattle.machine_model.specs.declared.Cause.{Cause}
use Rattle.machine_model.specs.Paths.{RiscProgram, IsSound, IsFirstBad}
use Rattle.capture_file.specs.declared.FileFault.{FileFault}
use Rattle.capture_file.specs.declared.Input.{Input as FileInput}
use Rattle.capture_file.specs.declared.Input.TheVariants.{Program, Stream, Desc as DescFile, Ring as RingFile}
use Rattle.capture_file.specs.declared.program.ProgramFile.{ProgramFile}
use Rattle.capture_file.specs.declared.Step.{Step}
use Rattle.capture_file.specs.Programs.{program_of}
use Rattle.capture_file.specs.Streams.{steps_of}
use Rattle.command_texts.specs.declared.refusal.Refusal.{Refusal}
use Rattle.command_texts.specs.declared.refusal.Refusal.TheVariants.{ReadFault, Malformed, BadDesc, BadGeometry, BadChain, BadRing, BadText}
use Rattle.command_texts.specs.declared.refusal.Refusal.TheVariants.{Rejected, Differs, NoMemory}
use Rattle.command_texts.specs.Answers.{answer_of}
use Rattle.command_steps.specs.Inputs.{AreGood, ByBytes, Input, IsFirstBadOf, OfInput, StopsAt, StopsIn}
use Rattle.stream_play.specs.Plays.{longest_stream}
use Rattle.command_inputs.specs.Programs.{GivesSound, HoldsProgram, HoldsSound, IsBadFile, IsBadProgram, Rejects, a_program}
use Rattle.command_inputs.specs.Programs.{a_sound_program}
use Rattle.stream_play.specs.Runs.{HoldsSteps, IsBadStream, a_stream_file}
use Rattle.command_steps.proofs.Inputs.{OfInput-map}
use Rattle.kept_stream.specs.Kept.{HoldsKept, IsBadKept, a_kept_stream, longest_kept}
use Rattle.command_inputs.specs.Descriptions.{HoldsValid, IsBadDesc, IsBadDescBy, a_description, description_by, description_of}
use Rattle.risc_asm.specs.declared.AsmFault.{AsmFault}
use Rattle.risc_asm.specs.declared.AsmError.TheVariants.{Bad}
use Rattle.risc_asm.specs.Answers.{IsFault}
use Rattle.risc_asm.proofs.OneAnswer.{one_answer}
use Rattle.command_inputs.specs.Listings.{HoldsListing, IsBadText, a_listing}
use Rattle.capture_desc.specs.declared.desc.Desc.{Desc}
use Rattle.picture_model.specs.declared.BuildFault.{BuildFault}
use Rattle.picture_model.specs.Geometry.{first_fault, frame_fault}
use Rattle.chain_model.specs.declared.ChainFault.{ChainFault}
use Rattle.command_inputs.specs.Chains.{GivesChain, HasFault, HoldsFrame, HoldsSecond, IsBadSecond, a_first_description}
use Rattle.command_inputs.specs.Chains.{a_second_description, frame_of}
use Rattle.check_model.specs.Texts.{check_text}
use Rattle.check_model.specs.Verdicts.{shows}
use Rattle.command_inputs.specs.Checked.{AreShown, FindsBy, HoldsShownBy, IsBadShown, a_shown_description}
use Rattle.command_inputs.specs.Rings.{HoldsRing, IsBadRing, a_ring, ring_of}
use Rattle.bt878_contract.specs.Tasks.{Source, input_of}
use Rattle.bt878_contract.specs.Tasks as tasks
use Rattle.bt878_contract.specs.Clauses.{AreTold, IsCut, IsUnreadOf, TellsInput, UnlessCut}
use Rattle.bt878_contract.proofs.Inputs.{both_of, cut_unread, told_some}
use Rattle.bt878_contract.proofs.Outputs.{first_among, later_among}

-- `Why` is what a refusal means for the bytes
pub record IsJudge (IsBad : List ℕ → Refusal → Option Inputs → Type 0) (IsGood : Option Inputs → List ℕ → Type 0)
    (Why : Refusal → Option Inputs → List ℕ → Type 0) : Type 0 where
  pub tells : (name : List ℕ) (refusal : Refusal) (inputs : Option Inputs) → IsBad name refusal inputs →
      OfInput name inputs (Why refusal inputs)
  pub excludes : (refusal : Refusal) (inputs : Option Inputs) (bytes : List ℕ) → AreTold inputs → IsGood inputs bytes →
      Why refusal inputs bytes → ⊥
  pub once : (a b : Refusal) (inputs : Option Inputs) (bytes : List ℕ) → AreTold inputs → Why a inputs bytes → Why b inputs bytes → a ≡ b

-- ---- what follows for every judge

pub bad_at : (IsBad : List ℕ → Refusal → Option Inputs → Type 0) (name : List ℕ) (refusal : Refusal) (old new : Seen) → TellsInput refusal →
    StopsAt IsBad name refusal old new →
    IsBad name refusal old.told.inputs
bad_at IsBad name ReadFault old new tells h = absurd tells
bad_at IsBad name NoMemory old new tells h = absurd tells
bad_at IsBad name refusal old new tells h = h

module _ {IsBad : List ℕ → Refusal → Option Inputs → Type 0} {IsGood : Option Inputs → List ℕ → Type 0}
    {Why : Refusal → Option Inputs → List ℕ → Type 0} (judge : IsJudge IsBad IsGood Why) where
  pub good_or_bad : (name : List ℕ) (refusal : Refusal) (inputs : Option Inputs) → AreTold inputs → OfInput name inputs (IsGood inputs) →
      IsBad name refusal inputs → ⊥
  good_or_bad name refusal inputs told good bad =
      both_of name inputs (IsGood inputs) (Why refusal inputs) ⊥ told (λ bytes. judge.excludes refusal inputs bytes told) good
      (judge.tells name refusal inputs bad)

  bad_once : (name : List ℕ) (a b : Refusal) (inputs : Option Inputs) → AreTold inputs → IsBad name a inputs → IsBad name b inputs → a ≡ b
  bad_once name a b inputs told one two =
      both_of name inputs (Why a inputs) (Why b inputs) (a ≡ b) told (λ bytes. judge.once a b inputs bytes told)
      (judge.tells name a inputs one) (judge.tells name b inputs two)

  pub good_cuts : (name : List ℕ) (refusal : Refusal) (old new : Seen) → AreTold old.told.inputs →
      OfInput name old.told.inputs (IsGood old.told.inputs) → StopsAt IsBad name refusal old new → IsCut (answer_of refusal) old new
  good_cuts name ReadFault old new told good h = cut_unread name old new (IsGood old.told.inputs) told good h
  good_cuts name NoMemory old new told good h = inl refl
  good_cuts name refusal old new told good h = absurd (good_or_bad name refusal old.told.inputs told good h)

  pub bad_stops : (name : List ℕ) (wanted refusal : Refusal) (old new : Seen) → AreTold old.told.inputs →
      IsBad name wanted old.told.inputs → StopsAt IsBad name refusal old new → UnlessCut wanted (answer_of refusal) old new
  bad_stops name wanted ReadFault old new told bad h =
      inr (cut_unread name old new (Why wanted old.told.inputs) told (judge.tells name wanted old.told.inputs bad) h)
  bad_stops name wanted NoMemory old new told bad h = inr (inl refl)
  bad_stops name wanted refusal old new told bad h = inl (ap answer_of (bad_once name refusal wanted old.told.inputs told h bad))

-- ---- the judges

-- a judge of the bytes alone
record IsByteJudge (IsBad : List ℕ → Refusal → Option Inputs → Type 0) (IsGood : List ℕ → Type 0)
    (Why : Refusal → List ℕ → Type 0) : Type 0 where
  tells : (name : List ℕ) (refusal : Refusal) (inputs : Option Inputs) → IsBad name refusal inputs → OfInput name inputs (Why refusal)
  excludes : (refusal : Refusal) (bytes : List ℕ) → IsGood bytes → Why refusal bytes → ⊥
  once : (a b : Refusal) (bytes : List ℕ) → Why a bytes → Why b bytes → a ≡ b

by_bytes : {IsBad : List ℕ → Refusal → Option Inputs → Type 0} {IsGood : List ℕ → Type 0} {Why : Refusal → List ℕ → Type 0} →
    IsByteJudge IsBad IsGood Why →
    IsJudge IsBad (ByBytes IsGood) (λ refusal inputs. Why refusal)
by_bytes judge =
    record {
      tells = judge.tells;
      excludes = λ refusal inputs bytes told. judge.excludes refusal bytes;
      once = λ a b inputs bytes told. judge.once a b bytes;
    }

-- a file that its reader gives a fault of
module _ {X : Type 0} (read : List ℕ → Result X FileFault) (file : FileInput) where
  abbrev IsFaulty : Refusal → List ℕ → Type 0
  IsFaulty refusal bytes = (fault : FileFault) × (refusal ≡ Malformed file fault) × (read bytes ≡ Err fault)

  faulty : (fault : FileFault) (name : List ℕ) (inputs : Option Inputs) → OfInput name inputs (λ bytes. read bytes ≡ Err fault) →
      OfInput name inputs (IsFaulty (Malformed file fault))
  faulty fault name inputs h =
      OfInput-map name inputs (λ bytes. read bytes ≡ Err fault) (IsFaulty (Malformed file fault)) (λ bytes e. (fault, refl, e)) h

  not_faulty : (refusal : Refusal) (bytes : List ℕ) (x : X) → read bytes ≡ Ok x → IsFaulty refusal bytes → ⊥
  not_faulty refusal bytes x e (fault, is, wrong) = absurd (cc)

  faulty_once : (a b : Refusal) (bytes : List ℕ) → IsFaulty a bytes → IsFaulty b bytes → a ≡ b
  faulty_once a b bytes (f, one, e) (g, two, d) = cc

-- a program file
abbrev WhyFile : Refusal → List ℕ → Type 0
WhyFile refusal bytes = IsFaulty program_of Program refusal bytes

file_tells : (name : List ℕ) (refusal : Refusal) (inputs : Option Inputs) → IsBadFile name refusal inputs →
    OfInput name inputs (WhyFile refusal)
file_tells name (Malformed Program fault) inputs h = faulty program_of Program fault name inputs h
file_tells name refusal inputs h = absurd h

file_judge : IsByteJudge IsBadFile HoldsProgram WhyFile
file_judge =
    record {
      tells = file_tells;
      excludes = λ refusal bytes good why. not_faulty program_of Program refusal bytes good.0 good.1 why;
      once = faulty_once program_of Program;
    }

-- and a sound program
pub record IsRejected (refusal : Refusal) (bytes : List ℕ) : Type 0 where
  place : ℕ
  step : ℕ
  cause : Cause
  is : refusal ≡ Rejected place step cause
  rejects : Rejects (program_of bytes) place step cause

abbrev WhyProgram : Refusal → List ℕ → Type 0
WhyProgram refusal bytes = WhyFile refusal bytes ⊎ IsRejected refusal bytes

program_tells : (name : List ℕ) (refusal : Refusal) (inputs : Option Inputs) → IsBadProgram name refusal inputs →
    OfInput name inputs (WhyProgram refusal)
program_tells name (Rejected at nth cause) inputs h =
    OfInput-map name inputs (λ bytes. Rejects (program_of bytes) at nth cause) (WhyProgram (Rejected at nth cause))
    (λ bytes rejects. inr (record { place = at; step = nth; cause = cause; is = refl; rejects = rejects })) h
program_tells name refusal inputs h =
    OfInput-map name inputs (WhyFile refusal) (WhyProgram refusal) (λ bytes. inl) (file_tells name refusal inputs h)

same_file : (bytes : List ℕ) (a b : ProgramFile) → program_of bytes ≡ Ok a → program_of bytes ≡ Ok b → a ≡ b
same_file bytes a b e f = cc

not_bad : (program : RiscProgram) (at nth : ℕ) (cause : Cause) → IsSound program → IsFirstBad program at nth cause → ⊥
not_bad program at nth cause sound bad = let fine = sound nth in let other = bad.bad in absurd (cc)

not_earlier : (program : RiscProgram) (a b n k : ℕ) (c d : Cause) → IsFirstBad program a n c → IsFirstBad program b k d → n < k → ⊥
not_earlier program a b n k c d one two less = let fine = two.fine n less in let other = one.bad in absurd (cc)

one_number : (program : RiscProgram) (a b n k : ℕ) (c d : Cause) → IsFirstBad program a n c → IsFirstBad program b k d → n ≡ k
one_number program a b n k c d one two =
    let less : n < k → ⊥ = not_earlier program a b n k c d one two in
    let more : k < n → ⊥ = not_earlier program b a k n d c two one in
    omega (arith, less, more)

one_bad : (program : RiscProgram) (a b n k : ℕ) (c d : Cause) → IsFirstBad program a n c → IsFirstBad program b k d →
    Rejected a n c ≡ Rejected b k d
one_bad program a b n k c d one two =
    let same = one_number program a b n k c d one two in
    let there = one.there in
    let bad = one.bad in
    let other_there = two.there in
    let other_bad = two.bad in
    cc

one_rejection : (a b n k : ℕ) (c d : Cause) (bytes : List ℕ) → Rejects (program_of bytes) a n c → Rejects (program_of bytes) b k d →
    Rejected a n c ≡ Rejected b k d
one_rejection a b n k c d bytes h other =
    one_bad other.file.program a b n k c d
    (subst (λ (f : ProgramFile). IsFirstBad f.program a n c) (same_file bytes h.file other.file h.reads other.reads) h.bad) other.bad

not_rejected : (refusal : Refusal) (bytes : List ℕ) → HoldsSound bytes → IsRejected refusal bytes → ⊥
not_rejected refusal bytes (program, fill, a) r =
    not_bad r.rejects.file.program r.place r.step r.cause
    (subst (λ (f : ProgramFile). IsSound f.program)
    (same_file bytes (record { program = program; fill = fill }) r.rejects.file a.reads r.rejects.reads) a.sound)
    r.rejects.bad

program_excludes : (refusal : Refusal) (bytes : List ℕ) → HoldsSound bytes → WhyProgram refusal bytes → ⊥
program_excludes refusal bytes (program, fill, a) (inl why) =
    not_faulty program_of Program refusal bytes (record { program = program; fill = fill }) a.reads why
program_excludes refusal bytes good (inr why) = not_rejected refusal bytes good why

program_once : (a b : Refusal) (bytes : List ℕ) → WhyProgram a bytes → WhyProgram b bytes → a ≡ b
program_once a b bytes (inl one) (inl two) = faulty_once program_of Program a b bytes one two
program_once a b bytes (inl one) (inr two) = absurd (not_faulty program_of Program a bytes two.rejects.file two.rejects.reads one)
program_once a b bytes (inr one) (inl two) = absurd (not_faulty program_of Program b bytes one.rejects.file one.rejects.reads two)
program_once a b bytes (inr one) (inr two) =
    one.is ∙ one_rejection one.place two.place one.step two.step one.cause two.cause bytes one.rejects two.rejects ∙ sym two.is

program_judge : IsByteJudge IsBadProgram HoldsSound WhyProgram
program_judge = record { tells = program_tells; excludes = program_excludes; once = program_once }

-- a stream file of the form for chains, or of another
module _ (chained : Bool) where
  abbrev stream_steps : List ℕ → Result (List Step) FileFault
  stream_steps bytes = steps_of longest_stream chained bytes

  abbrev WhyStream : Refusal → List ℕ → Type 0
  WhyStream refusal bytes = IsFaulty stream_steps Stream refusal bytes

  stream_tells : (name : List ℕ) (refusal : Refusal) (inputs : Option Inputs) → IsBadStream chained name refusal inputs →
      OfInput name inputs (WhyStream refusal)
  stream_tells name (Malformed Stream fault) inputs h = faulty stream_steps Stream fault name inputs h
  stream_tells name refusal inputs h = absurd h

  stream_judge : IsByteJudge (IsBadStream chained) (HoldsSteps chained) WhyStream
  stream_judge =
      record {
        tells = stream_tells;
        excludes = λ refusal bytes good why. not_faulty stream_steps Stream refusal bytes good.0 good.1 why;
        once = faulty_once stream_steps Stream;
      }

-- a stream file that is read whole
abbrev kept_steps : List ℕ → Result (List Step) FileFault
kept_steps bytes = steps_of longest_kept false bytes

abbrev WhyKept : Refusal → List ℕ → Type 0
WhyKept refusal bytes = IsFaulty kept_steps Stream refusal bytes

kept_tells : (name : List ℕ) (refusal : Refusal) (inputs : Option Inputs) → IsBadKept name refusal inputs →
    OfInput name inputs (WhyKept refusal)
kept_tells name (Malformed Stream fault) inputs h = faulty kept_steps Stream fault name inputs h
kept_tells name refusal inputs h = absurd h

kept_judge : IsByteJudge IsBadKept HoldsKept WhyKept
kept_judge =
    record {
      tells = kept_tells;
      excludes = λ refusal bytes good why. not_faulty kept_steps Stream refusal bytes good.0 good.1 why;
      once = faulty_once kept_steps Stream;
    }

-- a file that its reader refuses
module _ {X : Type 0} (read : List ℕ → Result X Refusal) where
  abbrev IsRefusedBy : Refusal → List ℕ → Type 0
  IsRefusedBy refusal bytes = read bytes ≡ Err refusal

  not_refused : (refusal : Refusal) (bytes : List ℕ) (x : X) → read bytes ≡ Ok x → IsRefusedBy refusal bytes → ⊥
  not_refused refusal bytes x e why = absurd (cc)

  refused_once : (a b : Refusal) (bytes : List ℕ) → IsRefusedBy a bytes → IsRefusedBy b bytes → a ≡ b
  refused_once a b bytes one two = cc

-- a description
desc_tells : (fault_in : Desc → Option BuildFault) (name : List ℕ) (refusal : Refusal) (inputs : Option Inputs) →
    IsBadDescBy fault_in name refusal inputs →
    OfInput name inputs (IsRefusedBy (description_by fault_in) refusal)
desc_tells fault_in name (Malformed DescFile fault) inputs h = h
desc_tells fault_in name (BadDesc fault) inputs h = h
desc_tells fault_in name (BadGeometry fault) inputs h = h
desc_tells fault_in name refusal inputs h = absurd h

desc_judge : IsByteJudge IsBadDesc HoldsValid (IsRefusedBy description_of)
desc_judge =
    record {
      tells = desc_tells first_fault;
      excludes = λ refusal bytes good why. not_refused description_of refusal bytes good.0 good.1.reads why;
      once = refused_once description_of;
    }

-- the first description of a chain
frame_judge : IsByteJudge (IsBadDescBy frame_fault) HoldsFrame (IsRefusedBy frame_of)
frame_judge =
    record {
      tells = desc_tells frame_fault;
      excludes = λ refusal bytes good why. not_refused frame_of refusal bytes good.0 good.1 why;
      once = refused_once frame_of;
    }

-- and the second
module _ (first : List ℕ) where
  pub record IsFaultyPair (refusal : Refusal) (told : Option Inputs) (bytes : List ℕ) : Type 0 where
    fault : ChainFault
    is : refusal ≡ BadChain fault
    faulty : OfInput first told (λ first_bytes. HasFault first_bytes bytes fault)

  abbrev WhySecond : Refusal → Option Inputs → List ℕ → Type 0
  WhySecond refusal told bytes = IsRefusedBy frame_of refusal bytes ⊎ IsFaultyPair refusal told bytes

  second_tells : (name : List ℕ) (refusal : Refusal) (inputs : Option Inputs) → IsBadSecond first name refusal inputs →
      OfInput name inputs (WhySecond refusal inputs)
  second_tells name (BadChain fault) inputs h =
      OfInput-map name inputs (λ bytes. OfInput first inputs (λ first_bytes. HasFault first_bytes bytes fault))
      (WhySecond (BadChain fault) inputs)
      (λ bytes bad. inr (record { fault = fault; is = refl; faulty = bad })) h
  second_tells name refusal inputs h =
      OfInput-map name inputs (IsRefusedBy frame_of refusal) (WhySecond refusal inputs) (λ bytes. inl)
      (desc_tells frame_fault name refusal inputs h)

  second_excludes : (refusal : Refusal) (inputs : Option Inputs) (bytes : List ℕ) → AreTold inputs → HoldsSecond first inputs bytes →
      WhySecond refusal inputs bytes → ⊥
  second_excludes refusal inputs bytes told good (inl why) =
      let some = told_some first inputs (λ a. (d e : Desc) × GivesChain a bytes d e) told good in
      not_refused frame_of refusal bytes some.1.1 some.1.2.are.reads_second why
  second_excludes refusal inputs bytes told good (inr why) =
      both_of first inputs (λ a. (d e : Desc) × GivesChain a bytes d e) (λ a. HasFault a bytes why.fault) ⊥ told
      (λ a given bad.
      let one = given.2.are.reads_first in
      let two = given.2.are.reads_second in
      let none = given.2.pair.no_fault in
      let one' = bad.are.reads_first in
      let two' = bad.are.reads_second in
      let some = bad.faulty in
      absurd (cc)) good why.faulty

  second_once : (a b : Refusal) (inputs : Option Inputs) (bytes : List ℕ) → AreTold inputs → WhySecond a inputs bytes →
      WhySecond b inputs bytes → a ≡ b
  second_once a b inputs bytes told (inl one) (inl two) = refused_once frame_of a b bytes one two
  second_once a b inputs bytes told (inl one) (inr two) =
      let some = told_some first inputs (λ x. HasFault x bytes two.fault) told two.faulty in
      absurd (not_refused frame_of a bytes some.1.second some.1.are.reads_second one)
  second_once a b inputs bytes told (inr one) (inl two) =
      let some = told_some first inputs (λ x. HasFault x bytes one.fault) told one.faulty in
      absurd (not_refused frame_of b bytes some.1.second some.1.are.reads_second two)
  second_once a b inputs bytes told (inr one) (inr two) =
      let same : one.fault ≡ two.fault =
      both_of first inputs (λ x. HasFault x bytes one.fault) (λ x. HasFault x bytes two.fault) (one.fault ≡ two.fault) told
      (λ x h k.
      let r = h.are.reads_first in
      let s = h.are.reads_second in
      let f = h.faulty in
      let r' = k.are.reads_first in
      let s' = k.are.reads_second in
      let f' = k.faulty in
      cc) one.faulty two.faulty in
      one.is ∙ ap BadChain same ∙ sym two.is

  second_judge : IsJudge (IsBadSecond first) (HoldsSecond first) WhySecond
  second_judge = record { tells = second_tells; excludes = second_excludes; once = second_once }

-- a ring file
ring_tells : (name : List ℕ) (refusal : Refusal) (inputs : Option Inputs) → IsBadRing name refusal inputs →
    OfInput name inputs (IsRefusedBy ring_of refusal)
ring_tells name (Malformed RingFile fault) inputs h = h
ring_tells name (BadRing fault) inputs h = h
ring_tells name refusal inputs h = absurd h

ring_judge : IsByteJudge IsBadRing HoldsRing (IsRefusedBy ring_of)
ring_judge =
    record {
      tells = ring_tells;
      excludes = λ refusal bytes good why. not_refused ring_of refusal bytes good.0 good.1.reads why;
      once = refused_once ring_of;
    }

-- a text
pub record IsAtFault (refusal : Refusal) (bytes : List ℕ) : Type 0 where
  fault : AsmFault
  is : refusal ≡ BadText fault
  bad : IsFault bytes fault

text_tells : (name : List ℕ) (refusal : Refusal) (inputs : Option Inputs) → IsBadText name refusal inputs →
    OfInput name inputs (IsAtFault refusal)
text_tells name (BadText fault) inputs h =
    OfInput-map name inputs (λ bytes. IsFault bytes fault) (IsAtFault (BadText fault))
    (λ bytes bad. record { fault = fault; is = refl; bad = bad }) h
text_tells name refusal inputs h = absurd h

text_excludes : (refusal : Refusal) (bytes : List ℕ) → HoldsListing bytes → IsAtFault refusal bytes → ⊥
text_excludes refusal bytes (file, good) why =
    let same = one_answer bytes (Ok file) (Err (Bad why.fault)) good why.bad tt tt in absurd (cc)

text_once : (a b : Refusal) (bytes : List ℕ) → IsAtFault a bytes → IsAtFault b bytes → a ≡ b
text_once a b bytes one two =
    let same = one_answer bytes (Err (Bad one.fault)) (Err (Bad two.fault)) one.bad two.bad tt tt in
    let fault : one.fault ≡ two.fault = cc in
    one.is ∙ ap BadText fault ∙ sym two.is

text_judge : IsByteJudge IsBadText HoldsListing IsAtFault
text_judge = record { tells = text_tells; excludes = text_excludes; once = text_once }

-- a description that is checked against a program
module _ (program : List ℕ) where
  pub record IsDiffering (refusal : Refusal) (told : Option Inputs) (bytes : List ℕ) : Type 0 where
    text : List ℕ
    is : refusal ≡ Differs text
    found : OfInput program told (λ a. FindsBy a bytes false text)

  abbrev WhyShown : Refusal → Option Inputs → List ℕ → Type 0
  WhyShown refusal told bytes = IsRefusedBy frame_of refusal bytes ⊎ IsDiffering refusal told bytes

  shown_tells : (name : List ℕ) (refusal : Refusal) (inputs : Option Inputs) → IsBadShown program name refusal inputs →
      OfInput name inputs (WhyShown refusal inputs)
  shown_tells name (Differs text) inputs h =
      OfInput-map name inputs (λ bytes. OfInput program inputs (λ a. FindsBy a bytes false text)) (WhyShown (Differs text) inputs)
      (λ bytes bad. inr (record { text = text; is = refl; found = bad })) h
  shown_tells name refusal inputs h =
      OfInput-map name inputs (IsRefusedBy frame_of refusal) (WhyShown refusal inputs) (λ bytes. inl)
      (desc_tells frame_fault name refusal inputs h)

  same_description : (bytes : List ℕ) (d e : Desc) → frame_of bytes ≡ Ok d → frame_of bytes ≡ Ok e → d ≡ e
  same_description bytes d e one two = cc

  same_program : (x : List ℕ) (p q : RiscProgram) (f g : ℕ) → GivesSound x p f → GivesSound x q g → p ≡ q
  same_program x p q f g one two =
      ap (λ (file : ProgramFile). file.program)
      (same_file x (record { program = p; fill = f }) (record { program = q; fill = g }) one.reads two.reads)

  not_both : (x bytes text : List ℕ) → AreShown x bytes → FindsBy x bytes false text → ⊥
  not_both x bytes text h k =
      let program = same_program x h.program k.program h.fill k.fill h.accepts k.accepts in
      let description = same_description bytes h.shown.0 k.finds.description h.shown.1 k.finds.reads in
      let both : true ≡ false =
      sym h.shown.2 ∙ ap (λ p. shows p h.shown.0) program ∙ ap (shows k.program) description ∙ k.finds.finds.shown in
      absurd (cc both)

  shown_excludes : (refusal : Refusal) (inputs : Option Inputs) (bytes : List ℕ) → AreTold inputs → HoldsShownBy program inputs bytes →
      WhyShown refusal inputs bytes → ⊥
  shown_excludes refusal inputs bytes told good (inl why) =
      let some = told_some program inputs (λ a. AreShown a bytes) told good in
      not_refused frame_of refusal bytes some.1.shown.0 some.1.shown.1 why
  shown_excludes refusal inputs bytes told good (inr why) =
      both_of program inputs (λ a. AreShown a bytes) (λ a. FindsBy a bytes false why.text) ⊥ told
      (λ a given bad. not_both a bytes why.text given bad) good why.found

  shown_once : (a b : Refusal) (inputs : Option Inputs) (bytes : List ℕ) → AreTold inputs → WhyShown a inputs bytes →
      WhyShown b inputs bytes → a ≡ b
  shown_once a b inputs bytes told (inl one) (inl two) = refused_once frame_of a b bytes one two
  shown_once a b inputs bytes told (inl one) (inr two) =
      let some = told_some program inputs (λ x. FindsBy x bytes false two.text) told two.found in
      absurd (not_refused frame_of a bytes some.1.finds.description some.1.finds.reads one)
  shown_once a b inputs bytes told (inr one) (inl two) =
      let some = told_some program inputs (λ x. FindsBy x bytes false one.text) told one.found in
      absurd (not_refused frame_of b bytes some.1.finds.description some.1.finds.reads two)
  shown_once a b inputs bytes told (inr one) (inr two) =
      let same : one.text ≡ two.text =
      both_of program inputs (λ x. FindsBy x bytes false one.text) (λ x. FindsBy x bytes false two.text) (one.text ≡ two.text) told
      (λ x h k. one_text x bytes one.text two.text h k) one.found two.found in
      one.is ∙ ap Differs same ∙ sym two.is
    where
      one_text : (x bytes s t : List ℕ) → FindsBy x bytes false s → FindsBy x bytes false t → s ≡ t
      one_text x bytes s t h k =
          h.finds.finds.says
          ∙ ap (λ p. check_text p h.finds.description) (same_program x h.program k.program h.fill k.fill h.accepts k.accepts)
          ∙ ap (check_text k.program) (same_description bytes h.finds.description k.finds.description h.finds.reads k.finds.reads)
          ∙ sym k.finds.finds.says

  shown_judge : IsJudge (IsBadShown program) (HoldsShownBy program) WhyShown
  shown_judge = record { tells = shown_tells; excludes = shown_excludes; once = shown_once }

-- ---- inputs whose judges are so

pub record IsJudged (input : Input) : Type 1 where
  pub Why : Refusal → Option Inputs → List ℕ → Type 0
  pub judges : IsJudge input.judge.IsBad input.judge.IsGood Why

abbrev pub AreJudged : List Input → Type 1
AreJudged [] = Unit {1}
AreJudged (input ∷ inputs) = IsJudged input × AreJudged inputs

pub program_judged : (name : List ℕ) → IsJudged (a_program name)
program_judged name = record { Why = λ refusal inputs. WhyFile refusal; judges = by_bytes file_judge }

pub sound_program_judged : (name : List ℕ) → IsJudged (a_sound_program name)
sound_program_judged name = record { Why = λ refusal inputs. WhyProgram refusal; judges = by_bytes program_judge }

pub description_judged : (name : List ℕ) → IsJudged (a_description name)
description_judged name = record { Why = λ refusal inputs. IsRefusedBy description_of refusal; judges = by_bytes desc_judge }

pub stream_judged : (chained : Bool) (name : List ℕ) → IsJudged (a_stream_file chained name)
stream_judged chained name = record { Why = λ refusal inputs. WhyStream chained refusal; judges = by_bytes (stream_judge chained) }

pub kept_judged : (name : List ℕ) → IsJudged (a_kept_stream name)
kept_judged name = record { Why = λ refusal inputs. WhyKept refusal; judges = by_bytes kept_judge }

pub first_judged : (name : List ℕ) → IsJudged (a_first_description name)
first_judged name = record { Why = λ refusal inputs. IsRefusedBy frame_of refusal; judges = by_bytes frame_judge }

pub second_judged : (first name : List ℕ) → IsJudged (a_second_description first name)
second_judged first name = record { Why = WhySecond first; judges = second_judge first }

pub ring_judged : (name : List ℕ) → IsJudged (a_ring name)
ring_judged name = record { Why = λ refusal inputs. IsRefusedBy ring_of refusal; judges = by_bytes ring_judge }

pub listing_judged : (name : List ℕ) → IsJudged (a_listing name)
listing_judged name = record { Why = λ refusal inputs. IsAtFault refusal; judges = by_bytes text_judge }

pub shown_judged : (program name : List ℕ) → IsJudged (a_shown_description program name)
shown_judged program name = record { Why = WhyShown program; judges = shown_judge program }

pub judged_source : (source : Source) → IsJudged (input_of source)
judged_source (tasks.Program name) = program_judged name
judged_source (tasks.SoundProgram name) = sound_program_judged name
judged_source (tasks.Description name) = description_judged name
judged_source (tasks.FirstDescription name) = first_judged name
judged_source (tasks.SecondDescription first name) = second_judged first name
judged_source (tasks.Stream chained name) = stream_judged chained name
judged_source (tasks.KeptStream name) = kept_judged name
judged_source (tasks.RingFile name) = ring_judged name
judged_source (tasks.Listing name) = listing_judged name
judged_source (tasks.ShownDescription program name) = shown_judged program name

pub judged : (sources : List Source) → AreJudged (map input_of sources)
judged [] = tt
judged (source ∷ sources) = (judged_source source, judged sources)

-- ---- a list of inputs

-- the desk may meet more faults of reading later
stops_at_later : (IsBad : List ℕ → Refusal → Option Inputs → Type 0) (name : List ℕ) (refusal : Refusal) (old mid new : Seen) →
    new.reads ≡ mid.reads →
    StopsAt IsBad name refusal old mid → StopsAt IsBad name refusal old new
stops_at_later IsBad name ReadFault old mid new same (inl rose) = inl (subst (λ n. HasRisen old.reads n) (sym same) rose)
stops_at_later IsBad name ReadFault old mid new same (inr missing) = inr missing
stops_at_later IsBad name refusal old mid new same h = h

pub stops_later : (inputs : List Input) (refusal : Refusal) (old mid new : Seen) → new.reads ≡ mid.reads → StopsIn inputs refusal old mid →
    StopsIn inputs refusal old new
stops_later [] refusal old mid new same h = h
stops_later (input ∷ inputs) refusal old mid new same (inl h) = inl (stops_at_later input.judge.IsBad input.name refusal old mid new same h)
stops_later (input ∷ inputs) refusal old mid new same (inr h) = inr (h.0, stops_later inputs refusal old mid new same h.1)

-- a refusal about an input is so of the first that is not good
pub bad_in : (inputs : List Input) (refusal : Refusal) (old new : Seen) → TellsInput refusal → StopsIn inputs refusal old new →
    IsFirstBadOf inputs refusal old.told.inputs
bad_in [] refusal old new tells h = subst TellsInput h tells
bad_in (input ∷ inputs) refusal old new tells (inl h) = inl (bad_at input.judge.IsBad input.name refusal old new tells h)
bad_in (input ∷ inputs) refusal old new tells (inr h) = inr (h.0, bad_in inputs refusal old new tells h.1)

-- good inputs aren't bad
pub good_not_bad : (inputs : List Input) → AreJudged inputs → (refusal : Refusal) (told : Option Inputs) → AreTold told →
    AreGood inputs told → IsFirstBadOf inputs refusal told → ⊥
good_not_bad [] are refusal told is good bad = bad
good_not_bad (input ∷ inputs) are refusal told is good (inl bad) = good_or_bad are.0.judges input.name refusal told is good.0 bad
good_not_bad (input ∷ inputs) are refusal told is good (inr bad) = good_not_bad inputs are.1 refusal told is good.1 bad.1

-- where an input is bad, it stops for this reason or is cut off
pub bad_leads : (inputs : List Input) → AreJudged inputs → (wanted refusal : Refusal) (old new : Seen) → AreTold old.told.inputs →
    IsFirstBadOf inputs wanted old.told.inputs →
    StopsIn inputs refusal old new → UnlessCut wanted (answer_of refusal) old new
bad_leads [] are wanted refusal old new told bad h = absurd bad
bad_leads (input ∷ inputs) are wanted refusal old new told (inl bad) (inl h) =
    bad_stops are.0.judges input.name wanted refusal old new told bad h
bad_leads (input ∷ inputs) are wanted refusal old new told (inl bad) (inr h) =
    absurd (good_or_bad are.0.judges input.name wanted old.told.inputs told h.0 bad)
bad_leads (input ∷ inputs) are wanted refusal old new told (inr bad) (inl h) =
    inr (good_cuts are.0.judges input.name refusal old new told bad.0 h)
bad_leads (input ∷ inputs) are wanted refusal old new told (inr bad) (inr h) = bad_leads inputs are.1 wanted refusal old new told bad.1 h.1

-- where all inputs are good, it stops only where it is cut off
pub good_leads : (inputs : List Input) → AreJudged inputs → (refusal : Refusal) (old new : Seen) → AreTold old.told.inputs →
    AreGood inputs old.told.inputs → StopsIn inputs refusal old new →
    IsCut (answer_of refusal) old new
good_leads [] are refusal old new told good h = inl (ap answer_of h)
good_leads (input ∷ inputs) are refusal old new told good (inl h) = good_cuts are.0.judges input.name refusal old new told good.0 h
good_leads (input ∷ inputs) are refusal old new told good (inr h) = good_leads inputs are.1 refusal old new told good.1 h.1

-- an input could not be read
unread_at : (IsBad : List ℕ → Refusal → Option Inputs → Type 0) (name : List ℕ) (names : List (List ℕ)) (old new : Seen) →
    StopsAt IsBad name ReadFault old new → IsUnreadOf (name ∷ names) old new
unread_at IsBad name names old new (inl rose) = inl rose
unread_at IsBad name names old new (inr missing) = inr (name, first_among name names, missing)

unread_later : (name : List ℕ) (names : List (List ℕ)) (old new : Seen) → IsUnreadOf names old new → IsUnreadOf (name ∷ names) old new
unread_later name names old new (inl rose) = inl rose
unread_later name names old new (inr (other, among, missing)) = inr (other, later_among other name names among, missing)

pub unread_in : (sources : List Source) (old new : Seen) → StopsIn (map input_of sources) ReadFault old new →
    IsUnreadOf (map (λ source. (input_of source).name) sources) old new
unread_in [] old new h = absurd (cc)
unread_in (source ∷ sources) old new (inl h) =
    unread_at (input_of source).judge.IsBad (input_of source).name (map (λ s. (input_of s).name) sources) old new h
unread_in (source ∷ sources) old new (inr h) =
    unread_later (input_of source).name (map (λ s. (input_of s).name) sources) old new (unread_in sources old new h.1)
