-- What the lines of a text give, as the code keeps it.
use Rattle.std.specs.Prelude.{◌≡◌, ℕ, ◌≤◌, ◌<◌, List, length, Option, Some, None, IfSome, IsTrue}
use Rattle.risc_word.specs.Words.{fits}
use Rattle.risc_text.specs.declared.Line.{Line}
use Rattle.risc_text.specs.declared.Line.TheVariants.{Instr}
use Rattle.risc_text.specs.Drafts as text
use Rattle.risc_text.specs.Drafts.{drafted, gathered, taken}
use Rattle.risc_text.specs.Readers.{Read, Reads, as_line, ended, line_at, ◌>>=◌}
use Rattle.risc_word.specs.declared.Instr as instrs
use Rattle.std.specs.Borrow.{Bor}
use Rattle.risc_asm.specs.declared.draft.Draft.{Draft}

-- an instruction's fields fit their bits
abbrev pub LineFits : Line → Type 0
LineFits (Instr instr) = IsTrue (fits instr)
LineFits _ = Unit {0}

abbrev pub seen : Draft → text.Draft
seen d =
    record { base = d.base; words = d.words.items; spans = d.spans; entry = d.entry; chunks = d.chunks.items; fill = d.fill }

-- a line, and an instruction, where its line ends after it
abbrev pub to_end : Read Line → Read Line
to_end read = read >>= ended

abbrev pub instr_to_end : Read instrs.Instr → Read Line
instr_to_end read = to_end (read >>= as_line)

-- what a reader of instructions gave, and that at most so many bytes are left after it
abbrev pub ReadsInstr : Option (instrs.Instr × Bor (List ℕ)) → Read instrs.Instr → Type 0
ReadsInstr read found = Reads (λ x. (x.0, x.1.now)) read found

abbrev pub Leaves : ℕ → Option (instrs.Instr × Bor (List ℕ)) → Type 0
Leaves n read = IfSome read (λ x. length x.1.now ≤ n)

-- a draft with the line that was read, and the text after it
abbrev pub carried : text.Draft → Read Line → Option (text.Draft × List ℕ)
carried d (Some read) = Some (taken d read.0, read.1)
carried d None = None

-- the line is taken, and this text is left; or none is read, and the draft stays
abbrev pub Takes : text.Draft → Read Line → text.Draft → Option (Bor (List ℕ)) → Type 0
Takes d read new (Some rest) = carried d read ≡ Some (new, rest.now)
Takes d read new None = (read ≡ None) × (new ≡ d)

-- a draft of a text's first lines, and the lines that are left
pub record Continues (d : text.Draft) (rest text : List ℕ) : Type 0 where
  pub most : ℕ
  pub enough : length rest ≤ most
  pub same : gathered most d rest ≡ drafted text

-- the lines of a text were read up to its end, or up to one that can't be read
pub record IsReadUpTo (d : text.Draft) (rest text : List ℕ) : Type 0 where
  pub so_far : Continues d rest text
  pub stops : 0 < length rest → line_at rest ≡ None
