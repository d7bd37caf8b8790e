-- The program of a description.
use Rattle.std.specs.Prelude.{ℕ, ◌+◌, ◌-◌, ◌*◌, ◌≡◌, Bool, true, false, List, [], ◌∷◌, ◌++◌, map, length, replicate, slice_index, zero, suc}
use Rattle.std.specs.List.{flat_map, range_with_len}
use Rattle.risc_word.specs.declared.Code.{Code}
use Rattle.risc_word.specs.declared.Code.TheVariants.{Vre, Vro, Fm1, Fm3}
use Rattle.risc_word.specs.declared.Ctl.{Ctl}
use Rattle.risc_word.specs.declared.Instr.{Instr}
use Rattle.risc_word.specs.declared.Instr.TheVariants as instr
use Rattle.risc_word.specs.Words.{encoded}
use Rattle.pixel_layout.specs.declared.Parity.{Parity}
use Rattle.pixel_layout.specs.declared.Parity.TheVariants.{Top, Bottom}
use Rattle.page_table.specs.Taken.{in_order}
use Rattle.machine_model.specs.Paths.{RiscProgram, one_span}
use Rattle.capture_desc.specs.declared.desc.Desc.{Desc}
use Rattle.capture_desc.specs.declared.desc.Fields.{Fields}
use Rattle.capture_desc.specs.declared.desc.Fields.TheVariants as fields
use Rattle.picture_model.specs.declared.PieceKind.{PieceKind}
use Rattle.picture_model.specs.declared.PieceKind.TheVariants.{Write, WriteLuma, Skip}
use Rattle.picture_model.specs.declared.Piece.{Piece}
use Rattle.picture_model.specs.Described.{layout_of, memory_of, rows_of, vbi_skip}
use Rattle.picture_model.specs.Plans.{Strip, plan, row_strip, skipped_strip, skipped_vbi_strip, vbi_strip}

-- the instructions of a line

abbrev pub no_control : Ctl
no_control = record { irq = false; set = 0; reset = 0 }

-- the instruction of a piece, in a planar line or in a packed one
abbrev pub instr_by : Bool → PieceKind → Piece → Instr
instr_by true Write p = instr.Write123 no_control p.ends 0 p.counts p.addrs
instr_by true WriteLuma p = instr.Write1S23 no_control p.ends 0 p.counts (slice_index p.addrs 0)
instr_by true Skip p = instr.Skip123 no_control p.ends p.counts
instr_by false Skip p = instr.Skip no_control p.ends (slice_index p.counts 0)
instr_by false _ p = instr.Write no_control p.ends 0 (slice_index p.counts 0) (slice_index p.addrs 0)

abbrev pub instr_of : Bool → Piece → Instr
instr_of planar p = instr_by planar p.kind p

abbrev pub line_instrs : Desc → Strip → List Instr
line_instrs d strip = map (instr_of strip.planar) (plan (memory_of d) strip)

abbrev pub lines_instrs : Desc → List Strip → List Instr
lines_instrs d strips = flat_map (line_instrs d) strips

-- the parts of a section

abbrev pub sync : Bool → Code → Instr
sync resync code = instr.Sync no_control resync code

-- the vertical code of a field, which opens its section
abbrev pub vertical : Parity → Code
vertical Top = Vre
vertical Bottom = Vro

abbrev pub opening : Parity → Instr
opening field = sync true (vertical field)

-- a field's lines in the vertical blanking interval, and the lines of its picture: each time those that
-- are skipped, then those that are kept
abbrev pub vbi_strips : Desc → Parity → List Strip
vbi_strips d field =
    replicate (vbi_skip d field) (skipped_vbi_strip d) ++ map (vbi_strip d field) (range_with_len 0 d.vbi_lines)

abbrev pub picture_strips : Desc → Parity → List Strip
picture_strips d field = replicate d.skip_lines (skipped_strip d) ++ map (row_strip d) (rows_of d field)

-- the VBI part: nothing where there are no VBI lines
abbrev pub vbi_from : ℕ → Desc → Parity → List Instr
vbi_from zero d field = []
vbi_from (suc more) d field = sync false Fm1 ∷ lines_instrs d (vbi_strips d field)

abbrev pub vbi_instrs : Desc → Parity → List Instr
vbi_instrs d field = vbi_from d.vbi_lines d field

-- the code that announces packed or planar data
abbrev pub data_code : Bool → Code
data_code false = Fm1
data_code true = Fm3

-- the picture part
abbrev pub field_instrs : Desc → Parity → List Instr
field_instrs d field = sync false (data_code (layout_of d).planar) ∷ lines_instrs d (picture_strips d field)

-- the signal of a field: RISC status 1 or 2, and none of the other's bits
abbrev pub signal : Parity → Ctl
signal Top = record { irq = true; set = 1; reset = 14 }
signal Bottom = record { irq = true; set = 2; reset = 13 }

abbrev pub closing : Parity → ℕ → Instr
closing field target = instr.Jump (signal field) target

-- what a section does between its opening and its closing
abbrev pub body : Desc → Parity → List Instr
body d field = vbi_instrs d field ++ field_instrs d field

-- the section of a field, whose closing leads to an address
abbrev pub section : Desc → Parity → ℕ → List Instr
section d field target = opening field ∷ body d field ++ closing field target ∷ []

-- how many instructions a section has, from its opening to its closing
abbrev pub size : Desc → Parity → ℕ
size d field = length (section d field d.base)

-- the words

abbrev pub words_of : List Instr → List ℕ
words_of instrs = flat_map encoded instrs

abbrev pub vbi_words : Desc → Parity → List ℕ
vbi_words d field = words_of (vbi_instrs d field)

abbrev pub field_words : Desc → Parity → List ℕ
field_words d field = words_of (field_instrs d field)

-- how many words a section has, wherever its closing leads
abbrev pub section_length : Desc → Parity → ℕ
section_length d field = length (words_of (section d field 0))

-- where a section begins, where the sections of a description are from an address on: with both fields
-- the bottom section follows the top one
abbrev pub begin_by : Fields → Desc → ℕ → Parity → ℕ
begin_by fields.Both d from Bottom = from + 4 * section_length d Top
begin_by _ d from field = from

abbrev pub section_begin : Desc → ℕ → Parity → ℕ
section_begin d from field = begin_by d.fields d from field

-- where a section's closing is: it is the section's last instruction
abbrev pub closing_begin : Desc → ℕ → Parity → ℕ
closing_begin d from field = section_begin d from field + 4 * (section_length d field - 2)

-- where it leads: from the top section to the bottom one, and from the last to an address that is given
abbrev pub next_by : Fields → Desc → ℕ → ℕ → Parity → ℕ
next_by fields.Both d from last Top = from + 4 * section_length d Top
next_by _ d from last field = last

abbrev pub section_next : Desc → ℕ → ℕ → Parity → ℕ
section_next d from last field = next_by d.fields d from last field

-- the sections of the described fields, from an address on
abbrev pub sections_by : Fields → Desc → ℕ → ℕ → List Instr
sections_by fields.Top d from last = section d Top last
sections_by fields.Bottom d from last = section d Bottom last
sections_by fields.Both d from last = section d Top (from + 4 * section_length d Top) ++ section d Bottom last

abbrev pub sections : Desc → ℕ → ℕ → List Instr
sections d from last = sections_by d.fields d from last

-- the words of the sections from an address on, of which the last leads back to another
abbrev pub sections_words : Desc → ℕ → ℕ → List ℕ
sections_words d at back = words_of (sections d at back)

-- the words of the program: its last section leads back to its base
abbrev pub compiled_words : Desc → List ℕ
compiled_words d = sections_words d d.base d.base

-- the program: its words are one after another from its base on, and it may write the description's pages or chunks
abbrev pub compiled : Desc → RiscProgram
compiled d = one_span d.base (compiled_words d) (in_order (memory_of d))

-- a part of some words is at an address, where the words begin at another
pub record Stands (words : List ℕ) (from : ℕ) (part : List ℕ) (address : ℕ) : Type 0 where
  pub before : List ℕ
  pub after : List ℕ
  pub split : words ≡ before ++ (part ++ after)
  pub at : address ≡ from + 4 * length before
