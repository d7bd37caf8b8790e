-- A program file that is read and checked.
use Rattle.std.specs.Prelude.{◌≡◌, ℕ, true, ⊤, List, Option, Result, Ok, Err}
use Rattle.capture_desk.specs.Desks.{Inputs}
use Rattle.machine_model.specs.declared.Cause.{Cause}
use Rattle.machine_model.specs.Paths.{RiscProgram, IsSound, IsFirstBad}
use Rattle.capture_file.specs.declared.FileFault.{FileFault}
use Rattle.capture_file.specs.declared.Input.TheVariants.{Program}
use Rattle.capture_file.specs.declared.program.ProgramFile.{ProgramFile}
use Rattle.capture_file.specs.Programs.{program_of}
use Rattle.command_texts.specs.declared.refusal.Refusal.{Refusal}
use Rattle.command_texts.specs.declared.refusal.Refusal.TheVariants.{Malformed, Rejected, NoMemory}
use Rattle.command_steps.specs.Inputs.{Always, ByBytes, Input, Judge, OfInput}

-- the most bytes of a program file, which is read up to one byte beyond them at most
abbrev pub longest_program : ℕ
longest_program = 4259857

-- ---- program files

-- a file gives this program, which is sound, and this fill
pub record Accepts (found : Result ProgramFile FileFault) (program : RiscProgram) (fill : ℕ) : Type 0 where
  pub reads : found ≡ Ok (record { program = program; fill = fill })
  pub sound : IsSound program

-- a file gives a program, and this is the first bad place of its path
pub record Rejects (found : Result ProgramFile FileFault) (at nth : ℕ) (cause : Cause) : Type 0 where
  pub file : ProgramFile
  pub reads : found ≡ Ok file
  pub bad : IsFirstBad file.program at nth cause

-- why a file isn't one of a program, where it was read
abbrev pub Misreads : Result ProgramFile FileFault → Refusal → Type 0
Misreads found (Malformed Program fault) = found ≡ Err fault
Misreads found NoMemory = ⊤
Misreads found _ = ⊥

-- why a program isn't taken
abbrev pub IsRefused : ProgramFile → Refusal → Type 0
IsRefused file (Rejected at nth cause) = IsFirstBad file.program at nth cause
IsRefused file NoMemory = ⊤
IsRefused file _ = ⊥

-- an input isn't one of a program
abbrev pub IsBadFile : List ℕ → Refusal → Option Inputs → Type 0
IsBadFile name (Malformed Program fault) inputs = OfInput name inputs (λ bytes. program_of bytes ≡ Err fault)
IsBadFile name _ inputs = ⊥

-- or its program isn't sound
abbrev pub IsBadProgram : List ℕ → Refusal → Option Inputs → Type 0
IsBadProgram name (Rejected at nth cause) inputs = OfInput name inputs (λ bytes. Rejects (program_of bytes) at nth cause)
IsBadProgram name refusal inputs = IsBadFile name refusal inputs

-- a file is that of a program, and that of a sound one
abbrev pub HoldsProgram : List ℕ → Type 0
HoldsProgram bytes = (file : ProgramFile) × (program_of bytes ≡ Ok file)

abbrev pub HoldsSound : List ℕ → Type 0
HoldsSound bytes = (program : RiscProgram) × (fill : ℕ) × Accepts (program_of bytes) program fill

-- the program of a program file, which is sound
abbrev pub GivesSound : List ℕ → RiscProgram → ℕ → Type 0
GivesSound bytes program fill = Accepts (program_of bytes) program fill

-- ---- as inputs

abbrev pub program_files : Judge
program_files = record { most = longest_program; kept = true; MayGoOn = Always; IsGood = ByBytes HoldsProgram; IsBad = IsBadFile }

abbrev pub sound_programs : Judge
sound_programs = record { most = longest_program; kept = true; MayGoOn = Always; IsGood = ByBytes HoldsSound; IsBad = IsBadProgram }

abbrev pub a_program : List ℕ → Input
a_program name = record { name = name; judge = program_files }

abbrev pub a_sound_program : List ℕ → Input
a_sound_program name = record { name = name; judge = sound_programs }
