-- The faults of a geometry in words. Numbers are decimal.
use Rattle.std.specs.Prelude.{ℕ, List, ◌++◌, codes}
use Rattle.std.specs.Fmt.{decimal}
use Rattle.picture_model.specs.declared.BuildFault.{BuildFault}
use Rattle.picture_model.specs.declared.BuildFault.TheVariants.{WidthRange, HeightRange, WidthOffUnit, OddHeight, TooNarrow, StrideShort}
use Rattle.picture_model.specs.declared.BuildFault.TheVariants.{OffUnit, Overlap, VbiRange, PageUnaligned, PageTwice, TooFewPages}
use Rattle.picture_model.specs.declared.BuildFault.TheVariants.{TooFewBytes, ProgramBase, ProgramOnPage}

-- what is needed, and what is there
abbrev pub need_words : ℕ → ℕ → List ℕ
need_words need have = codes ", need " ++ (decimal need ++ (codes ", have " ++ decimal have))

abbrev pub geometry_words : BuildFault → List ℕ
geometry_words WidthRange = codes "width range"
geometry_words HeightRange = codes "height range"
geometry_words WidthOffUnit = codes "width off unit"
geometry_words OddHeight = codes "odd height"
geometry_words TooNarrow = codes "too narrow"
geometry_words StrideShort = codes "stride short"
geometry_words OffUnit = codes "off unit"
geometry_words Overlap = codes "overlap"
geometry_words VbiRange = codes "vbi range"
geometry_words (PageUnaligned number) = codes "page unaligned " ++ decimal number
geometry_words (PageTwice number) = codes "page twice " ++ decimal number
geometry_words (TooFewPages need have) = codes "too few pages" ++ need_words need have
geometry_words (TooFewBytes need have) = codes "too few bytes" ++ need_words need have
geometry_words ProgramBase = codes "program base"
geometry_words ProgramOnPage = codes "program on page"
