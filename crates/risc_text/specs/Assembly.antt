-- Which text is a listing, which lines begin one, and which line of a text is at fault.
use Rattle.std.specs.Prelude.{◌≡◌, ℕ, ◌+◌, ◌^◌, ◌<◌, ◌≤◌, ◌⊎◌, Bool, true, false, not, List, [], ◌∷◌, ◌++◌, length, ◌==◌, nat_lt, nat_le}
use Rattle.std.specs.List.{list_all, count_by, flat_map}
use Rattle.machine_model.specs.Paths.{RiscProgram, Span, AreApart, IsProgram, span}
use Rattle.risc_listing.specs.Listings.{fill_line, listing, span_lines}

-- a program and a byte
pub record IsListed (program : RiscProgram) (fill : ℕ) : Type 0 where
  pub made : IsProgram program
  pub fill_small : fill < 256

-- the text is the listing of the program and its fill
abbrev pub Assembles : List ℕ → RiscProgram → ℕ → Type 0
Assembles text program fill = IsListed program fill × (listing program fill ≡ text)

abbrev pub IsListing : List ℕ → Type 0
IsListing text = (program : RiscProgram) × (fill : ℕ) × Assembles text program fill

-- some listing begins with these lines
abbrev pub BeginsListing : List ℕ → Type 0
BeginsListing lines = (rest : List ℕ) × IsListing (lines ++ rest)

-- A word that is no instruction. No instruction that has it as its second word has bits for it there but as an address.
abbrev pub other_word : ℕ
other_word = 4096

-- the last span has a word at least
abbrev pub some_words : List ℕ → List ℕ
some_words [] = other_word ∷ []
some_words (word ∷ words) = word ∷ words

abbrev pub filled : List Span → List Span
filled [] = []
filled (s ∷ []) = span s.at (some_words s.words) ∷ []
filled (s ∷ other ∷ rest) = s ∷ filled (other ∷ rest)

-- the program of spans from an entry on
abbrev pub of_spans : ℕ → List Span → RiscProgram
of_spans entry spans = record { base = entry; spans = spans; grants = [] }

-- The program of one span whose entry isn't its first word: it has another word, or has room for a span or a word behind it.
abbrev pub of_one_by : Bool → Bool → Span → RiscProgram
of_one_by true room s = of_spans (s.at + 4) (s ∷ [])
of_one_by false true s = of_spans s.at (s ∷ span (s.at + 8) (other_word ∷ []) ∷ [])
of_one_by false false s = of_spans (s.at + 4) (span s.at (s.words ++ other_word ∷ []) ∷ [])

abbrev pub of_one : Span → RiscProgram
of_one s = of_one_by (nat_lt 1 (length s.words)) (nat_le (s.at + 12) (2 ^ 32)) s

-- the program that goes on from spans with as few words and spans as can be
abbrev pub with_entry : List Span → RiscProgram
with_entry [] = of_spans 0 []
with_entry (s ∷ []) = of_one s
with_entry (s ∷ other ∷ rest) = of_spans s.at (s ∷ other ∷ rest)

abbrev pub completed : List Span → RiscProgram
completed spans = with_entry (filled spans)

-- the lines of spans, of which the last may have no word yet, with which a program can go on
pub record AreOfSpans (lines : List ℕ) : Type 0 where
  pub spans : List Span
  pub is : lines ≡ flat_map span_lines spans
  pub apart : AreApart 0 (filled spans)
  pub made : IsProgram (completed spans)
  pub rest : List ℕ
  pub goes_on : listing (completed spans) 0 ≡ lines ++ rest

-- nothing, or a listing, or all of one but its last line, or the lines of spans
abbrev pub FewLinesMissing : List ℕ → Type 0
FewLinesMissing lines = (lines ≡ []) ⊎ (IsListing lines ⊎ (IsListing (lines ++ fill_line 0) ⊎ AreOfSpans lines))

-- whole lines: the last byte, if there is one, is a newline
abbrev pub are_lines : List ℕ → Bool
are_lines [] = true
are_lines (byte ∷ []) = byte == 10
are_lines (_ ∷ byte ∷ rest) = are_lines (byte ∷ rest)

-- no newline
abbrev pub has_no_newline : List ℕ → Bool
has_no_newline text = list_all (λ byte. not (byte == 10)) text

-- how many whole lines a text has
abbrev pub line_count : List ℕ → ℕ
line_count text = count_by (λ byte. byte == 10) text

-- The lines of a text are its parts up to and with each newline, counted from 1. A line that comes
-- after these lines is at fault where they begin a listing and with it begin none.
pub record IsWrongLine (before line : List ℕ) : Type 0 where
  pub whole : are_lines line ≡ true
  pub one : line_count line ≡ 1
  pub so_far : BeginsListing before
  pub no_more : BeginsListing (before ++ line) → ⊥

-- What is after the last newline is a line, and at fault, where the lines before it are a listing.
pub record IsRestAtFault (before rest : List ℕ) : Type 0 where
  pub some : 1 ≤ length rest
  pub plain : has_no_newline rest ≡ true
  pub all : IsListing before

pub record LineAtFault (text : List ℕ) (k : ℕ) : Type 0 where
  pub before : List ℕ
  pub line : List ℕ
  pub after : List ℕ
  pub parts : text ≡ before ++ (line ++ after)
  pub whole : are_lines before ≡ true
  pub number : k ≡ line_count before + 1
  pub wrong : IsWrongLine before line ⊎ ((after ≡ []) × IsRestAtFault before line)

-- so many lines, none of them at fault, and no listing
pub record EndsShort (text : List ℕ) (k : ℕ) : Type 0 where
  pub lines : List ℕ
  pub rest : List ℕ
  pub parts : text ≡ lines ++ rest
  pub whole : are_lines lines ≡ true
  pub plain : has_no_newline rest ≡ true
  pub number : k ≡ line_count lines
  pub begun : BeginsListing lines
  pub unfinished : IsListing lines → ⊥
