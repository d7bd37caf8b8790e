-- The program that lines give.
use Rattle.std.specs.Prelude.{ℕ, List, Option, Some, None}
use Rattle.page_table.specs.Grants.{Chunk}
use Rattle.machine_model.specs.Paths.{RiscProgram, Span}
use Rattle.risc_text.specs.Assembly.{completed}

-- the program of spans and an entry; where no entry is given, the one that goes on with as few words and spans as can be
abbrev pub meant : Option ℕ → List Span → List Chunk → RiscProgram
meant (Some entry) spans grants = record { base = entry; spans = spans; grants = grants }
meant None spans grants = record { base = (completed spans).base; spans = (completed spans).spans; grants = grants }
