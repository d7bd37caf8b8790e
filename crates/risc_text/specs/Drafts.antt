-- What the lines of a text give together.
use Rattle.std.specs.Prelude.{ℕ, zero, suc, Bool, true, false, List, [], ◌∷◌, ◌++◌, length, map, Option, Some, None}
use Rattle.risc_word.specs.Words.{encoded}
use Rattle.page_table.specs.Grants as grants
use Rattle.machine_model.specs.Paths.{begins_at_base, RiscProgram, all_words}
use Rattle.machine_model.specs.Paths as paths
use Rattle.risc_text.specs.declared.Line.{Line}
use Rattle.risc_text.specs.declared.Line.TheVariants.{Base, Span, Entry, Instr, Word, Chunk, Fill}
use Rattle.risc_text.specs.Readers.{line_at, ◌>>=◌}

-- a program whose lines are read: its base and words, or its spans and its entry
pub record Draft : Type 0 where
  pub base : Option ℕ
  pub words : List ℕ
  pub spans : List paths.Span
  pub entry : Option ℕ
  pub chunks : List (ℕ × ℕ)
  pub fill : Option ℕ

abbrev pub blank : Draft
blank = record { base = None; words = []; spans = []; entry = None; chunks = []; fill = None }

-- the last span has these words more
abbrev pub longer : List paths.Span → List ℕ → List paths.Span
longer [] more = []
longer (s ∷ []) more = paths.span s.at (s.words ++ more) ∷ []
longer (s ∷ other ∷ rest) more = s ∷ longer (other ∷ rest) more

-- the words before all spans, where there is none as yet
abbrev pub more_words : List paths.Span → List ℕ → List ℕ → List ℕ
more_words [] words more = words ++ more
more_words (s ∷ rest) words more = words

abbrev pub with_words : Draft → List ℕ → Draft
with_words d more = record d { words = more_words d.spans d.words more; spans = longer d.spans more }

-- with a line more
abbrev pub taken : Draft → Line → Draft
taken d (Base base) = record d { base = Some base }
taken d (Span at) = record d { spans = d.spans ++ paths.span at [] ∷ [] }
taken d (Entry entry) = record d { entry = Some entry }
taken d (Instr instr) = with_words d (encoded instr)
taken d (Word word) = with_words d (word ∷ [])
taken d (Chunk at len) = record d { chunks = d.chunks ++ (at, len) ∷ [] }
taken d (Fill fill) = record d { fill = Some fill }

-- with the lines of a text more, of which there are so many at most
unfoldable pub gathered : ℕ → Draft → List ℕ → Option Draft
gathered zero d [] = Some d
gathered zero d (_ ∷ _) = None
gathered (suc most) d [] = Some d
gathered (suc most) d (byte ∷ rest) = do
  read ← line_at (byte ∷ rest)
  gathered most (taken d read.0) read.1

-- what a text gives; each line has a byte at least
abbrev pub drafted : List ℕ → Option Draft
drafted text = gathered (length text) blank text

-- what the lines of a program give, with its fill or without
abbrev pub pair_of : grants.Chunk → ℕ × ℕ
pair_of c = (c.at, c.len)

abbrev pub draft_by : Bool → RiscProgram → Option ℕ → Draft
draft_by true program fill =
    record {
      base = Some program.base;
      words = all_words program;
      spans = [];
      entry = None;
      chunks = map pair_of program.grants;
      fill = fill;
    }
draft_by false program fill =
    record { base = None; words = []; spans = program.spans; entry = Some program.base; chunks = map pair_of program.grants; fill = fill }

abbrev pub draft_of : RiscProgram → Option ℕ → Draft
draft_of program fill = draft_by (begins_at_base program) program fill
