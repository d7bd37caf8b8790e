-- A program that was read is checked.
use Rattle.std.proofs.Common.{◌≡◌, List, ℕ, Result, Ok, sym, subst, refl}
use Rattle.std.proofs.lemmas.Result.{IfErr-weaker, IfOk-weaker}
use Rattle.capture_file.specs.declared.FileFault.{FileFault}
use Rattle.capture_file.specs.declared.program.ProgramFile.{ProgramFile}
use Rattle.capture_file.specs.Programs.{program_of}
use Rattle.capture_desk.specs.Desks.{Seen}
use Rattle.command_texts.specs.declared.refusal.Refusal.{Refusal}
use Rattle.command_texts.specs.declared.refusal.Refusal.TheVariants.{NoMemory, ReadFault, Rejected}
use Rattle.command_steps.specs.Inputs.{OfInput, StopsAt}
use Rattle.command_steps.proofs.Inputs.{OfInput-map}
use Rattle.command_steps.proofs.Judging.{judged, not_judged}
use Rattle.command_inputs.specs.declared.programs.Loaded.{Loaded}
use Rattle.command_inputs.specs.Programs.{Accepts, HoldsSound, IsBadFile, IsBadProgram, IsRefused, Rejects, program_files, sound_programs}
use Rattle.command_inputs.proofs.programs.accept.Goals as goal

module _ (name : List ℕ) (old new : Seen) where
  file_stops : (refusal : Refusal) → StopsAt IsBadFile name refusal old new → StopsAt IsBadProgram name refusal old new
  file_stops ReadFault h = h
  file_stops NoMemory h = tt
  file_stops (Rejected at nth cause) h = absurd h
  file_stops refusal h = h

  module _ (file : ProgramFile) (reads : OfInput name old.told.inputs (λ bytes. program_of bytes ≡ Ok file)) where
    program_stops : (refusal : Refusal) → IsRefused file refusal → StopsAt IsBadProgram name refusal old new
    program_stops NoMemory h = tt
    program_stops (Rejected at nth cause) h =
        OfInput-map name old.told.inputs (λ bytes. program_of bytes ≡ Ok file) (λ bytes. Rejects (program_of bytes) at nth cause)
        (λ bytes e. record { file = file; reads = e; bad = h }) reads
    program_stops refusal h = absurd h

    -- what is so of the file that was found
    of_found : (P : Result ProgramFile FileFault → Type 0) → P (Ok file) → OfInput name old.told.inputs (λ bytes. P (program_of bytes))
    of_found P h =
        OfInput-map name old.told.inputs (λ bytes. program_of bytes ≡ Ok file) (λ bytes. P (program_of bytes))
        (λ bytes e. subst P (sym e) h) reads

pub returns-in_err-file-clause-takes : goal.returns-in_err-file-clause-takes
returns-in_err-file-clause-takes g c =
    let name = c.args.name.now in
    let old = g.D.Desk.seen c.args.desk.now in
    let new = g.D.Desk.seen c.read_file.new.desk in
    let refusal = c.in_err-file.field-0.0 in
    not_judged name program_files sound_programs c.from_residual.result refusal old new c.from_residual.ensures.1
    (file_stops name old new refusal) c.in_err-file.ensures.takes

pub returns-clause-accepts : goal.returns-clause-accepts
returns-clause-accepts g c =
    let name = c.args.name.now in
    let old = g.D.Desk.seen c.args.desk.now in
    let file = c.in_ok-file.file in
    IfOk-weaker c.judge.result (λ loaded. Accepts (Ok file) loaded.accepted loaded.fill)
    (λ loaded. OfInput name old.told.inputs (λ bytes. Accepts (program_of bytes) loaded.accepted loaded.fill))
    (λ (loaded : Loaded) h. of_found name old old file c.in_ok-file.ensures.file (λ found. Accepts found loaded.accepted loaded.fill) h)
    c.judge.ensures.accepts

pub returns-clause-takes : goal.returns-clause-takes
returns-clause-takes g c =
    let name = c.args.name.now in
    let old = g.D.Desk.seen c.args.desk.now in
    let new = g.D.Desk.seen c.read_file.new.desk in
    let file = c.in_ok-file.file in
    let reads = c.in_ok-file.ensures.file in
    let r = c.judge.result in
    judged name program_files sound_programs refl r old new
    (IfOk-weaker r (λ loaded. Accepts (Ok file) loaded.accepted loaded.fill) (λ _. OfInput name old.told.inputs HoldsSound)
    (λ (loaded : Loaded) h. OfInput-map name old.told.inputs (λ bytes. Accepts (program_of bytes) loaded.accepted loaded.fill) HoldsSound
    (λ bytes a. (loaded.accepted, loaded.fill, a))
    (of_found name old new file reads (λ found. Accepts found loaded.accepted loaded.fill) h)) c.judge.ensures.accepts)
    (IfErr-weaker r (IsRefused file) (λ refusal. StopsAt IsBadProgram name refusal old new)
    (program_stops name old new file reads) c.judge.ensures.refuses) c.in_ok-file.ensures.takes
