-- The lines of a picture, one after another.
use Rattle.std.proofs.Common.{◌≡◌, ◌++◌, ◌+◌, ◌-◌, ◌<◌, ℕ, suc, Bool, List, ◌∷◌, map, ap, ◌∙◌, arith}
use Rattle.std.specs.List.{range_with_len}
use Rattle.risc_word.specs.declared.Instr.{Instr}
use Rattle.pixel_layout.specs.declared.Parity.{Parity}
use Rattle.capture_desc.specs.declared.desc.Desc.{Desc}
use Rattle.picture_model.specs.declared.Piece.{Piece}
use Rattle.picture_model.specs.Described.{both, field_height, memory_of, picture_row, rows_of}
use Rattle.picture_model.specs.Plans.{Strip, plan, row_strip}
use Rattle.picture_model.specs.Programs.{instr_of, line_instrs, lines_instrs, words_of}
use Rattle.field_compile.specs.Kept.{BeginsWith}
use Rattle.field_compile.proofs.Appending.{IsLeft, fewer_left}

-- one line more
pub fewer_lines : (d : Desc) (old out new : List ℕ) (strip : Strip) (rest : List Strip) (all : List Instr) (planar : Bool)
    (pieces : List Piece) → IsLeft old out (lines_instrs d (strip ∷ rest)) all →
    planar ≡ strip.planar → pieces ≡ plan (memory_of d) strip → BeginsWith out new → new ≡ out ++ words_of (map (instr_of planar) pieces) →
    IsLeft old new (lines_instrs d rest) all
fewer_lines d old out new strip rest all planar pieces left form is kept added =
    fewer_left old out new (line_instrs d strip) (lines_instrs d rest) all left kept
    (added
    ∙ ap (λ (p : Bool). out ++ words_of (map (instr_of p) pieces)) form
    ∙ ap (λ (ps : List Piece). out ++ words_of (map (instr_of strip.planar) ps)) is)

pub some_left : (end at : ℕ) → at < end → end - at ≡ suc (end - (at + 1))
some_left end at before = omega arith

-- the picture rows of a field from one on
abbrev pub rows_from : Desc → Parity → ℕ → ℕ → List ℕ
rows_from d field number count = map (picture_row (both d) field) (range_with_len number count)

abbrev pub rows_instrs : Desc → List ℕ → List Instr
rows_instrs d rows = lines_instrs d (map (row_strip d) rows)

pub all_rows : (d : Desc) (field : Parity) (end : ℕ) → end ≡ field_height d field → rows_from d field 0 (end - 0) ≡ rows_of d field
all_rows d field end is =
    let same : end - 0 ≡ field_height d field = omega arith in ap (rows_from d field 0) same
