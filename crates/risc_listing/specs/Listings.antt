-- The listing of a program.
use Rattle.std.specs.Prelude.{ℕ, Bool, true, false, zero, suc, ◌+◌, ◌-◌, List, [], ◌∷◌, ◌++◌, codes, Option, Some, None, Ok, Err}
use Rattle.std.specs.Prelude.{if◌then◌else◌, ◌==◌}
use Rattle.std.specs.List.{flat_map, starts_with}
use Rattle.std.specs.Fmt.{decimal}
use Rattle.risc_word.specs.declared.Instr.{Instr}
use Rattle.risc_word.specs.Words.{Reading, encoded, instr_at}
use Rattle.page_table.specs.Grants.{Chunk, is_page}
use Rattle.machine_model.specs.Paths.{RiscProgram, Span, all_words, begins_at_base}
use Rattle.risc_listing.specs.Lines.{hex, address_text, instr_line, line_end}

-- the instruction that words begin with and its length, where they are exactly its canonical encoding
abbrev pub if_spelled : List ℕ → Reading → Option (Instr × ℕ)
if_spelled words (Ok read) =
    if starts_with (λ one other. one == other) words (encoded read.0) then Some read else None
if_spelled words (Err fault) = None

abbrev pub spelled : List ℕ → Option (Instr × ℕ)
spelled words = if_spelled words (instr_at words 0)

-- the line of an instruction, or of one word
abbrev pub line_of : ℕ → ℕ → Option (Instr × ℕ) → List ℕ
line_of at word (Some read) = instr_line at read.0
line_of at word None = address_text at ++ (codes " word " ++ (address_text word ++ line_end))

-- how many words a line is of
abbrev pub words_of : Option (Instr × ℕ) → ℕ
words_of (Some read) = read.1
words_of None = 1

-- the lines of the words from an address on. `skip` words are passed over: those of the
-- instruction whose line was the last
unfoldable pub word_lines : ℕ → ℕ → List ℕ → List ℕ
word_lines at skip [] = []
word_lines at (suc skip) (_ ∷ rest) = word_lines (at + 4) skip rest
word_lines at zero (word ∷ rest) =
    let found = spelled (word ∷ rest) in line_of at word found ++ word_lines (at + 4) (words_of found - 1) rest

-- a chunk of memory that the program may write; the line of a page has its address alone
abbrev pub chunk_line : Chunk → List ℕ
chunk_line c =
    if is_page c then codes "page " ++ (address_text c.at ++ line_end)
    else codes "chunk " ++ (address_text c.at ++ (codes " " ++ (decimal c.len ++ line_end)))

abbrev pub base_line : ℕ → List ℕ
base_line base = codes "base " ++ (address_text base ++ line_end)

abbrev pub fill_line : ℕ → List ℕ
fill_line fill = codes "fill " ++ (hex 2 fill ++ line_end)

abbrev pub span_line : ℕ → List ℕ
span_line at = codes "span " ++ (address_text at ++ line_end)

abbrev pub entry_line : ℕ → List ℕ
entry_line entry = codes "entry " ++ (address_text entry ++ line_end)

-- a span: its address, and the lines of its words, which are read without those of other spans
abbrev pub span_lines : Span → List ℕ
span_lines s = span_line s.at ++ word_lines s.at 0 s.words

-- the words of a program, by their base or span by span
abbrev pub lines_by : Bool → RiscProgram → List ℕ
lines_by true program = base_line program.base ++ word_lines program.base 0 (all_words program)
lines_by false program = flat_map span_lines program.spans ++ entry_line program.base

abbrev pub all_word_lines : RiscProgram → List ℕ
all_word_lines program = lines_by (begins_at_base program) program

-- the listing of a program, whose memory is filled with a byte at first
abbrev pub listing : RiscProgram → ℕ → List ℕ
listing program fill = all_word_lines program ++ (flat_map chunk_line program.grants ++ fill_line fill)
