use Rattle.std.proofs.Common.{◌-◌}
use Rattle.field_compile.proofs.Appending.{IsLeft}
use Rattle.vbi_compile.proofs.VbiLines.{vbi_lines_from}
use Rattle.vbi_compile.proofs.push_lines.Given as goal

-- the instructions of the lines that are left
abbrev pub invariant-loop-line : goal.invariant-loop-line
invariant-loop-line l =
    IsLeft l.fn.out.items l.out.items (vbi_lines_from l.frame l.field l.line (l.line-end - l.line))
    (vbi_lines_from l.frame l.field 0 l.frame.vbi_lines)
