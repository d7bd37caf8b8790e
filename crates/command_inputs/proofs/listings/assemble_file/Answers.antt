-- What is read up to one byte beyond the longest text shows what the whole text is.
use Rattle.std.proofs.Common.{◌≡◌, ◌≤◌, ◌+◌, ◌∙◌, ℕ, List, length, take, Err, ap, subst, arith, length-take, refl}
use Rattle.std.proofs.lemmas.List.{take_all}
use Rattle.capture_file.specs.declared.program.ProgramFile.{ProgramFile}
use Rattle.risc_asm.specs.Answers.{Answers, IsFault, most_bytes}
use Rattle.risc_asm.specs.declared.AsmError.{AsmError}
use Rattle.risc_asm.specs.declared.AsmFault.{AsmFault}
use Rattle.risc_asm.specs.declared.AsmFault.TheVariants.{Line, Short, TooLong}
use Rattle.capture_desk.specs.Desks.{Seen}
use Rattle.command_texts.specs.declared.refusal.Refusal.TheVariants.{BadText, NoMemory}
use Rattle.command_steps.specs.Inputs.{OfInput, raw_files}
use Rattle.command_steps.proofs.Inputs.{OfInput-map}
use Rattle.command_steps.proofs.Judging.{found_bad, found_good, not_judged, raw_stops}
use Rattle.command_inputs.specs.Listings.{GivesAssembled, HoldsListing, IsBadText, listings}
use Rattle.command_inputs.proofs.listings.assemble_file.Goals as goal

module _ (text content : List ℕ) (e : text ≡ take (most_bytes + 1) content) where
  -- a text of which no more bytes were read than it may have was read whole
  is_whole : length text ≤ most_bytes → text ≡ content
  is_whole few =
      let size = length-take (most_bytes + 1) content in
      let same = ap length e in
      e ∙ take_all (most_bytes + 1) content (omega (arith, size, same, few))

  assembled : (file : ProgramFile) → GivesAssembled text file → GivesAssembled content file
  assembled file is = subst (λ t. GivesAssembled t file) (is_whole is.0) is

  at_fault : (fault : AsmFault) → IsFault text fault → IsFault content fault
  at_fault (Line k) is = subst (λ t. IsFault t (Line k)) (is_whole is.0) is
  at_fault (Short k) is = subst (λ t. IsFault t (Short k)) (is_whole is.0) is
  at_fault TooLong long =
      let size = length-take (most_bytes + 1) content in
      let same = ap length e in
      omega (arith, size, same, long)

module _ (name : List ℕ) (old : Seen) (text : List ℕ)
    (read : OfInput name old.told.inputs (λ content. text ≡ take (most_bytes + 1) content)) where
  listing_found : (file : ProgramFile) → GivesAssembled text file → OfInput name old.told.inputs (λ content. GivesAssembled content file)
  listing_found file is =
      OfInput-map name old.told.inputs (λ content. text ≡ take (most_bytes + 1) content) (λ content. GivesAssembled content file)
      (λ content e. assembled text content e file is) read

  fault_found : (fault : AsmFault) → IsFault text fault → OfInput name old.told.inputs (λ content. IsFault content fault)
  fault_found fault is =
      OfInput-map name old.told.inputs (λ content. text ≡ take (most_bytes + 1) content) (λ content. IsFault content fault)
      (λ content e. at_fault text content e fault is) read

pub returns-in_err-text-clause-takes : goal.returns-in_err-text-clause-takes
returns-in_err-text-clause-takes g c =
    let name = c.args.name.now in
    let old = g.D.Desk.seen c.args.desk.now in
    let new = g.D.Desk.seen c.read_text.new.desk in
    let refusal = c.in_err-text.field-0.0 in
    not_judged name (raw_files most_bytes) listings c.from_residual.result refusal old new c.from_residual.ensures.1
    (raw_stops IsBadText most_bytes name refusal old new) c.in_err-text.ensures.takes

pub returns-in-Ok-clause-assembles : goal.returns-in-Ok-clause-assembles
returns-in-Ok-clause-assembles g c =
    listing_found c.args.name.now (g.D.Desk.seen c.args.desk.now) c.in_ok-text.text c.in_ok-text.ensures.bytes c.in-Ok.file c.in-Ok.ensures

pub returns-in-Ok-clause-takes : goal.returns-in-Ok-clause-takes
returns-in-Ok-clause-takes g c =
    let name = c.args.name.now in
    let old = g.D.Desk.seen c.args.desk.now in
    found_good name (raw_files most_bytes) listings old (g.D.Desk.seen c.read_text.new.desk)
    (OfInput-map name old.told.inputs (λ content. GivesAssembled content c.in-Ok.file) HoldsListing (λ content is. (c.in-Ok.file, is))
    (listing_found name old c.in_ok-text.text c.in_ok-text.ensures.bytes c.in-Ok.file c.in-Ok.ensures)) c.in_ok-text.ensures.takes

pub returns-in-Err-Bad-clause-takes : goal.returns-in-Err-Bad-clause-takes
returns-in-Err-Bad-clause-takes g c =
    let old = g.D.Desk.seen c.args.desk.now in
    let text = c.in_ok-text.text in
    let fault = c.in-Err-Bad.fault in
    found_bad c.args.name.now (raw_files most_bytes) listings refl (BadText fault) old (g.D.Desk.seen c.read_text.new.desk)
    (fault_found c.args.name.now old text c.in_ok-text.ensures.bytes fault
    (subst (λ (error : AsmError). Answers text (Err error)) c.in-Err-Bad.field-0-is c.in-Err-Bad.ensures)) c.in_ok-text.ensures.takes

pub returns-in-Err-Memory-clause-takes : goal.returns-in-Err-Memory-clause-takes
returns-in-Err-Memory-clause-takes g c =
    found_bad c.args.name.now (raw_files most_bytes) listings refl NoMemory (g.D.Desk.seen c.args.desk.now)
    (g.D.Desk.seen c.read_text.new.desk) tt c.in_ok-text.ensures.takes
