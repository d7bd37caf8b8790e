-- What `assemble` answers.
use Rattle.std.specs.Prelude.{◌≡◌, ℕ, ◌+◌, ◌≤◌, ◌<◌, List, ◌++◌, length, take, Result, Ok, Err, true}
use Rattle.capture_file.specs.declared.program.ProgramFile.{ProgramFile}
use Rattle.machine_model.specs.Paths.{RiscProgram}
use Rattle.risc_listing.specs.Listings.{listing}
use Rattle.risc_text.specs.Assembly.{Assembles, BeginsListing, EndsShort, IsListed, IsWrongLine, LineAtFault, are_lines, line_count}
use Rattle.risc_asm.specs.declared.AsmError.{AsmError}
use Rattle.risc_asm.specs.declared.AsmError.TheVariants.{Bad, Memory}
use Rattle.risc_asm.specs.declared.AsmFault.{AsmFault}
use Rattle.risc_asm.specs.declared.AsmFault.TheVariants.{Line, Short, TooLong}

abbrev pub most_bytes : ℕ
most_bytes = 67108864

abbrev pub IsFault : List ℕ → AsmFault → Type 0
IsFault text (Line k) = (length text ≤ most_bytes) × LineAtFault text k
IsFault text (Short k) = (length text ≤ most_bytes) × EndsShort text k
IsFault text TooLong = most_bytes < length text

-- out of memory alone is left open
abbrev pub Answers : List ℕ → Result ProgramFile AsmError → Type 0
Answers text (Ok file) = (length text ≤ most_bytes) × Assembles text file.program file.fill
Answers text (Err (Bad fault)) = IsFault text fault
Answers text (Err Memory) = Unit {0}

-- the k-th of these lines, counted from 1, is the first with which they begin no listing
pub record HasWrongLine (lines : List ℕ) (k : ℕ) : Type 0 where
  pub before : List ℕ
  pub line : List ℕ
  pub after : List ℕ
  pub parts : lines ≡ before ++ (line ++ after)
  pub whole : are_lines before ≡ true
  pub number : k ≡ line_count before + 1
  pub wrong : IsWrongLine before line

-- The first line at fault is between two places of whole lines: the lines up to the first begin a
-- listing, those up to the second don't.
pub record IsBetween (lines : List ℕ) (low high : ℕ) : Type 0 where
  pub order : low < high
  pub within : high ≤ length lines
  pub low_whole : are_lines (take low lines) ≡ true
  pub high_whole : are_lines (take high lines) ≡ true
  pub begun : BeginsListing (take low lines)
  pub wrong : BeginsListing (take high lines) → ⊥

-- what depends on the text alone: any answer but out of memory
abbrev pub IsTold : Result ProgramFile AsmError → Type 0
IsTold (Ok file) = Unit {0}
IsTold (Err (Bad fault)) = Unit {0}
IsTold (Err Memory) = ⊥

-- no two such answers fit one text
abbrev pub OneAnswerFits : Type 0
OneAnswerFits =
    (text : List ℕ) (first second : Result ProgramFile AsmError) → Answers text first → Answers text second → IsTold first → IsTold second →
    first ≡ second

-- no listing has more bytes than a text that is assembled
abbrev pub ListingsAreShort : Type 0
ListingsAreShort = (program : RiscProgram) (fill : ℕ) → IsListed program fill → length (listing program fill) ≤ most_bytes

-- so a listing is assembled to the program and the fill that it is of
abbrev pub ListingsAreAssembled : Type 0
ListingsAreAssembled =
    (program : RiscProgram) (fill : ℕ) (answer : Result ProgramFile AsmError) →
    IsListed program fill → Answers (listing program fill) answer → IsTold answer →
    answer ≡ Ok (record { program = program; fill = fill })
