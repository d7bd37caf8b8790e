-- A text that is read and assembled.
use Rattle.std.specs.Prelude.{ℕ, true, List, Option, Ok}
use Rattle.capture_desk.specs.Desks.{Inputs}
use Rattle.capture_file.specs.declared.program.ProgramFile.{ProgramFile}
use Rattle.risc_asm.specs.Answers.{Answers, IsFault, most_bytes}
use Rattle.command_texts.specs.declared.refusal.Refusal.{Refusal}
use Rattle.command_texts.specs.declared.refusal.Refusal.TheVariants.{BadText}
use Rattle.command_steps.specs.Inputs.{Always, ByBytes, Input, Judge, OfInput}

-- a text isn't too long, and it is the listing of this program and fill
abbrev pub GivesAssembled : List ℕ → ProgramFile → Type 0
GivesAssembled bytes file = Answers bytes (Ok file)

abbrev pub HoldsListing : List ℕ → Type 0
HoldsListing bytes = (file : ProgramFile) × GivesAssembled bytes file

-- an input is a text that has this fault
abbrev pub IsBadText : List ℕ → Refusal → Option Inputs → Type 0
IsBadText name (BadText fault) inputs = OfInput name inputs (λ bytes. IsFault bytes fault)
IsBadText name _ inputs = ⊥

-- ---- as an input

abbrev pub listings : Judge
listings = record { most = most_bytes; kept = true; MayGoOn = Always; IsGood = ByBytes HoldsListing; IsBad = IsBadText }

abbrev pub a_listing : List ℕ → Input
a_listing name = record { name = name; judge = listings }
