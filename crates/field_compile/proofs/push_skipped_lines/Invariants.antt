use Rattle.std.proofs.Common.{◌-◌, replicate}
use Rattle.picture_model.specs.Plans.{skipped_strip}
use Rattle.picture_model.specs.Programs.{lines_instrs}
use Rattle.field_compile.proofs.Appending.{IsLeft}
use Rattle.field_compile.proofs.push_skipped_lines.Given as goal

-- the instructions of the lines that are left
abbrev pub invariant-loop : goal.invariant-loop
invariant-loop l =
    IsLeft l.fn.out.items l.out.items (lines_instrs l.frame (replicate (l.end - l.counter) (skipped_strip l.frame)))
    (lines_instrs l.frame (replicate l.frame.skip_lines (skipped_strip l.frame)))
