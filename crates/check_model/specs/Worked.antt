-- Programs beside two small descriptions, each with one thing of its own, and what is reported of each.
use Rattle.std.specs.Prelude.{ℕ, Bool, true, false, List, [], ◌∷◌, ◌++◌, Some}
use Rattle.risc_word.specs.declared.Code.TheVariants.{Vre, Fm1, Fm3}
use Rattle.risc_word.specs.declared.Ends.{Ends}
use Rattle.risc_word.specs.declared.Instr.{Instr}
use Rattle.risc_word.specs.declared.Instr.TheVariants.{Write, Skip, Jump, Write123, Skip123, Write1S23}
use Rattle.page_table.specs.Grants.{chunk}
use Rattle.pixel_layout.specs.declared.Format.TheVariants.{Yuv420p}
use Rattle.pixel_layout.specs.declared.Parity.TheVariants.{Top, Bottom}
use Rattle.machine_model.specs.Paths.{RiscProgram, one_span}
use Rattle.capture_desc.specs.declared.desc.Desc.{Desc}
use Rattle.capture_desc.specs.declared.desc.Fields.TheVariants as fields
use Rattle.picture_model.specs.Programs.{closing, no_control, sync, words_of}
use Rattle.picture_model.specs.Worked.{smallest}
use Rattle.check_model.specs.Texts.{verdict_words}
use Rattle.check_model.specs.Verdicts.{verdict}

-- two planar rows of ten pixels in the top field, of which the first keeps its chroma, behind a skipped line; and a VBI line of
-- five bytes behind one that is skipped
abbrev pub planar : Desc
planar =
    record smallest {
      format = Yuv420p;
      width = 10;
      height = 2;
      skip_lines = 1;
      vbi_lines = 1;
      vbi_bytes = 5;
      vbi_skip = Some (1 ∷ []);
    }

-- instructions from an address on
abbrev pub standing : List Instr → RiscProgram
standing instrs = one_span 0x1000 (words_of instrs) (chunk 0x20000 4096 ∷ [])

-- what is reported of the top field
abbrev pub of_smallest : List Instr → List ℕ
of_smallest instrs = verdict_words (verdict (standing instrs) smallest Top)

abbrev pub of_planar : List Instr → List ℕ
of_planar instrs = verdict_words (verdict (standing instrs) planar Top)

-- two rows of eight pixels, one in each field, and what is reported of the bottom one
abbrev pub interlaced : Desc
interlaced = record smallest { height = 2; fields = fields.Both }

abbrev pub of_bottom : List Instr → List ℕ
of_bottom instrs = verdict_words (verdict (standing instrs) interlaced Bottom)

-- the marks of an instruction in its line
abbrev pub whole : Ends
whole = record { sol = true; eol = true }

abbrev pub first : Ends
first = record { sol = true; eol = false }

abbrev pub last : Ends
last = record { sol = false; eol = true }

abbrev pub inner : Ends
inner = record { sol = false; eol = false }

abbrev pub write : Ends → ℕ → ℕ → Instr
write ends count address = Write no_control ends 0 count address

abbrev pub skip : Ends → ℕ → Instr
skip ends count = Skip no_control ends count

abbrev pub jump : ℕ → Instr
jump target = Jump no_control target

-- between the opening and the closing of a field of which the body is this
abbrev pub opened_to : Bool → List Instr → Instr → List Instr
opened_to resync body end = sync resync Vre ∷ (body ++ end ∷ [])

abbrev pub around : List Instr → List Instr
around body = opened_to true body (closing Top 0x1000)

-- a body of one line, whose code comes first
abbrev pub line : List Instr → List Instr
line parts = around (sync false Fm1 ∷ parts)

-- around the rows of the planar description
abbrev pub planar_body : List Instr → List Instr
planar_body rows =
    around (sync false Fm1 ∷ skip whole 5 ∷ write whole 5 0x2001e ∷ sync false Fm3 ∷ Skip123 no_control whole (10 ∷ 5 ∷ 5 ∷ []) ∷ rows)

-- the first row
abbrev pub chroma_row : Instr
chroma_row = Write123 no_control whole 0 (10 ∷ 5 ∷ 5 ∷ []) (0x20000 ∷ 0x20014 ∷ 0x20019 ∷ [])

-- its chroma alone
abbrev pub chroma_alone : Instr
chroma_alone = Write123 no_control whole 0 (0 ∷ 5 ∷ 5 ∷ []) (0 ∷ 0x20014 ∷ 0x20019 ∷ [])

-- the second row, of which no chroma is kept
abbrev pub luma_row : Instr
luma_row = Write1S23 no_control whole 0 (10 ∷ 5 ∷ 5 ∷ []) 0x2000a
