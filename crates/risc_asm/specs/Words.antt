-- Why a text is not assembled, in words. Numbers are decimal.
use Rattle.std.specs.Prelude.{ℕ, List, ◌++◌, codes}
use Rattle.std.specs.Fmt.{decimal}
use Rattle.risc_asm.specs.declared.AsmFault.{AsmFault}
use Rattle.risc_asm.specs.declared.AsmFault.TheVariants.{Line, Short, TooLong}

-- a fault of a text that is assembled
abbrev pub listing_words : AsmFault → List ℕ
listing_words (Line k) = codes "line " ++ decimal k
listing_words (Short k) = codes "short at " ++ decimal k
listing_words TooLong = codes "too long"
