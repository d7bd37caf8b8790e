-- The words that are kept from line to line.
use Rattle.std.specs.Prelude.{ℕ, List, ◌++◌, codes}
use Rattle.risc_listing.specs.Lines.{at_text}

-- a pc and an INT_STAT, as the numbers of a state begin
abbrev pub kept_words : ℕ → ℕ → List ℕ
kept_words pc int_stat = codes " |" ++ (at_text pc ++ at_text int_stat)
