-- The VBI lines of a field, one after another.
use Rattle.std.proofs.Common.{ℕ, List, map}
use Rattle.std.specs.List.{range_with_len}
use Rattle.risc_word.specs.declared.Instr.{Instr}
use Rattle.pixel_layout.specs.declared.Parity.{Parity}
use Rattle.capture_desc.specs.declared.desc.Desc.{Desc}
use Rattle.picture_model.specs.Plans.{vbi_strip}
use Rattle.picture_model.specs.Programs.{lines_instrs}

-- the instructions of a field's VBI lines from one on
abbrev pub vbi_lines_from : Desc → Parity → ℕ → ℕ → List Instr
vbi_lines_from d field line count = lines_instrs d (map (vbi_strip d field) (range_with_len line count))
