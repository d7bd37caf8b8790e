use Rattle.std.proofs.Common.{◌-◌, ◌<◌}
use Rattle.picture_model.specs.Described.{IsDescription, rows_of}
use Rattle.picture_model.proofs.Each.{Each}
use Rattle.planar_plan.specs.Lines.{AreSpansOf}
use Rattle.field_compile.proofs.Appending.{IsLeft}
use Rattle.field_compile.proofs.Lines.{rows_from, rows_instrs}
use Rattle.field_compile.proofs.push_rows.Given as goal

-- the instructions of the rows that are left, which are rows of the picture
abbrev pub invariant-loop-number : goal.invariant-loop-number
invariant-loop-number l =
    record {
      left : IsLeft l.fn.out.items l.out.items (rows_instrs l.frame (rows_from l.frame l.field l.number (l.number-end - l.number)))
          (rows_instrs l.frame (rows_of l.frame l.field));
      below : Each (λ row. row < l.frame.height) (rows_from l.frame l.field l.number (l.number-end - l.number));
      spans : AreSpansOf l.frame l.spans;
      description : IsDescription l.frame;
    }
