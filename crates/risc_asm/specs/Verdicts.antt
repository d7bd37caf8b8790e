-- What is found of a text.
use Rattle.std.specs.Prelude.{◌≡◌, ℕ, ◌≤◌, ◌<◌, List, [], ◌++◌, length, take, Option, Some, Result, Ok, Err, IsTrue}
use Rattle.std.specs.Borrow.{Bor}
use Rattle.machine_model.specs.Paths.{RiscProgram, Span}
use Rattle.risc_listing.specs.Listings.{listing}
use Rattle.risc_text.specs.Assembly.{Assembles, BeginsListing, IsListing, are_lines}
use Rattle.risc_text.specs.Drafts.{drafted}
use Rattle.risc_asm.specs.declared.compare.Agreement.{Agreement}
use Rattle.risc_asm.specs.declared.compare.Agreement.TheVariants as agreement
use Rattle.risc_asm.specs.declared.judge.Verdict.{Verdict}
use Rattle.risc_asm.specs.declared.judge.Verdict.TheVariants.{Wrong, Begun, Whole}

-- the first so many bytes of a text are in front of lines
pub record StartsAs (n : ℕ) (text lines : List ℕ) : Type 0 where
  pub within : n ≤ length text
  pub more : List ℕ
  pub is : lines ≡ take n text ++ more

-- A text doesn't begin with lines: `left` are its bytes from the first on that differs. Where none is left, the text is a
-- front of the lines.
pub record Differs (lines text left : List ℕ) : Type 0 where
  pub shown : List ℕ
  pub more : List ℕ
  pub text_is : text ≡ shown ++ left
  pub lines_are : lines ≡ shown ++ more
  pub not_in_front : (rest : List ℕ) → text ≡ lines ++ rest → ⊥
  pub apart : 0 < length left → (rest later : List ℕ) → lines ++ rest ≡ text ++ later → ⊥

-- what is after lines, where the text begins with them, and else what differs
abbrev pub WithoutLines : List ℕ → List ℕ → Result (Bor (List ℕ)) (Bor (List ℕ)) → Type 0
WithoutLines lines text (Ok rest) = text ≡ lines ++ rest.now
WithoutLines lines text (Err left) = Differs lines text left.now

-- so many bytes of a text agree with lines, and no more
pub record IsAlike (n : ℕ) (text lines : List ℕ) : Type 0 where
  pub starts : StartsAs n text lines
  pub other : text ≡ lines → ⊥
  pub apart : n < length text → (rest : List ℕ) → lines ≡ text ++ rest → ⊥

abbrev pub EndAgrees : List ℕ → List ℕ → Agreement → Type 0
EndAgrees text lines agreement.Whole = text ≡ lines
EndAgrees text lines (agreement.Alike n) = IsAlike n text lines

-- how a text agrees with the listing of a program and a fill
abbrev pub Agrees : List ℕ → RiscProgram → ℕ → Agreement → Type 0
Agrees text program fill agreement = EndAgrees text (listing program fill) agreement

-- some listing begins with the first so many bytes
abbrev pub IsBegun : List ℕ → ℕ → Type 0
IsBegun text n = (n ≤ length text) × BeginsListing (take n text)

-- where the text begins some listing it begins that of the program, and where it is one it is this
pub record IsToldBy (text : List ℕ) (program : RiscProgram) (fill : ℕ) : Type 0 where
  pub front : IsTrue (are_lines text) → BeginsListing text → (rest : List ℕ) × (listing program fill ≡ text ++ rest)
  pub whole : IsListing text → listing program fill ≡ text

-- what the lines of a text give, by a base or by spans
abbrev pub IsDraftOfBase : List ℕ → ℕ → List ℕ → List (ℕ × ℕ) → Option ℕ → Type 0
IsDraftOfBase text base words chunks fill =
    (entry : Option ℕ)
    × (drafted text ≡ Some (record { base = Some base; words = words; spans = []; entry = entry; chunks = chunks; fill = fill }))

abbrev pub IsDraftOfSpans : List ℕ → Option ℕ → List Span → List (ℕ × ℕ) → Option ℕ → Type 0
IsDraftOfSpans text entry spans chunks fill =
    (base : Option ℕ) × (words : List ℕ)
    × (drafted text ≡ Some (record { base = base; words = words; spans = spans; entry = entry; chunks = chunks; fill = fill }))

-- whether a text begins a listing, or is one
abbrev pub Judges : List ℕ → Verdict → Type 0
Judges text (Wrong n) = IsBegun text n × (IsTrue (are_lines text) → BeginsListing text → ⊥)
Judges text Begun = BeginsListing text × (IsListing text → ⊥)
Judges text (Whole file) = Assembles text file.program file.fill
