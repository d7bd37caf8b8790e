-- What is read up to one byte beyond the longest file shows what the whole file is.
use Rattle.std.proofs.Common.{◌≡◌, ◌+◌, ◌∙◌, List, ℕ, take, Result, Ok, Err, ap, sym, refl}
use Rattle.std.proofs.lemmas.Result.{IfErr-weaker, IfOk-weaker}
use Rattle.capture_file.specs.declared.FileFault.{FileFault}
use Rattle.capture_file.specs.declared.Input.TheVariants.{Program}
use Rattle.capture_file.specs.declared.program.ProgramFile.{ProgramFile}
use Rattle.capture_file.specs.Programs.{program_of}
use Rattle.capture_desk.specs.Desks.{Seen}
use Rattle.command_texts.specs.declared.refusal.Refusal.{Refusal}
use Rattle.command_texts.specs.declared.refusal.Refusal.TheVariants.{Malformed, NoMemory, ReadFault}
use Rattle.command_steps.specs.Inputs.{OfInput, StopsAt, raw_files}
use Rattle.command_steps.proofs.Inputs.{OfInput-map}
use Rattle.command_steps.proofs.Judging.{judged, not_judged, raw_stops}
use Rattle.command_inputs.specs.Programs.{HoldsProgram, IsBadFile, Misreads, longest_program, program_files}
use Rattle.command_inputs.proofs.WholeFiles.{read_is_whole}
use Rattle.command_inputs.proofs.programs.read_file.Goals as goal

module _ (name : List ℕ) (old new : Seen) (bytes : List ℕ)
    (read : OfInput name old.told.inputs (λ content. bytes ≡ take (longest_program + 1) content)) where
  -- what is found of the bytes is found of the file
  whole_found : (found : Result ProgramFile FileFault) → program_of bytes ≡ found →
      OfInput name old.told.inputs (λ content. program_of content ≡ found)
  whole_found found h =
      OfInput-map name old.told.inputs (λ content. bytes ≡ take (longest_program + 1) content) (λ content. program_of content ≡ found)
      (λ content e. sym (read_is_whole content) ∙ ap program_of (sym e) ∙ h) read

  misread : (refusal : Refusal) → Misreads (program_of bytes) refusal → StopsAt IsBadFile name refusal old new
  misread (Malformed Program fault) h = whole_found (Err fault) h
  misread NoMemory h = tt
  misread ReadFault h = absurd h
  misread refusal h = h

pub returns-in_err-file-clause-takes : goal.returns-in_err-file-clause-takes
returns-in_err-file-clause-takes g c =
    let name = c.args.name.now in
    let old = g.D.Desk.seen c.args.desk.now in
    let new = g.D.Desk.seen c.read_bytes.new.desk in
    let refusal = c.in_err-file.field-0.0 in
    not_judged name (raw_files longest_program) program_files c.from_residual.result refusal old new c.from_residual.ensures.1
    (raw_stops IsBadFile longest_program name refusal old new) c.in_err-file.ensures.takes

pub returns-clause-file : goal.returns-clause-file
returns-clause-file g c =
    let name = c.args.name.now in
    let old = g.D.Desk.seen c.args.desk.now in
    let bytes = c.in_ok-file.file in
    let r = c.parse.result in
    IfOk-weaker r (λ file. program_of bytes ≡ Ok file) (λ file. OfInput name old.told.inputs (λ content. program_of content ≡ Ok file))
    (λ file. whole_found name old old bytes c.in_ok-file.ensures.bytes (Ok file))
    c.parse.ensures.reads

pub returns-clause-takes : goal.returns-clause-takes
returns-clause-takes g c =
    let name = c.args.name.now in
    let old = g.D.Desk.seen c.args.desk.now in
    let new = g.D.Desk.seen c.read_bytes.new.desk in
    let bytes = c.in_ok-file.file in
    let read = c.in_ok-file.ensures.bytes in
    let r = c.parse.result in
    judged name (raw_files longest_program) program_files refl r old new
    (IfOk-weaker r (λ file. program_of bytes ≡ Ok file) (λ _. OfInput name old.told.inputs HoldsProgram)
    (λ file h. OfInput-map name old.told.inputs (λ content. program_of content ≡ Ok file) HoldsProgram (λ content e. (file, e))
    (whole_found name old new bytes read (Ok file) h))
    c.parse.ensures.reads)
    (IfErr-weaker r (Misreads (program_of bytes)) (λ refusal. StopsAt IsBadFile name refusal old new) (misread name old new bytes read)
    c.parse.ensures.misreads) c.in_ok-file.ensures.takes
