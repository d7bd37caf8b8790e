use Rattle.std.proofs.Common.{◌≡◌}
use Rattle.capture_desk.specs.Desks.{OnlyWrites}
use Rattle.field_stream.specs.Pushes.{repeated}
use Rattle.field_stream.specs.Lines.{line_pushes}
use Rattle.field_stream.specs.Drafts.{IsMoved, pushed_all}
use Rattle.field_stream.proofs.stream.put_copies.Given as goal

abbrev pub invariant-loop-done : goal.invariant-loop-done
invariant-loop-done g l =
    record {
      line : l.template.line ≡ l.fn.template.line;
      moved : IsMoved (pushed_all (repeated l._done (line_pushes l.fn.template.line)) l.fn.draft) l.draft (g.D.Desk.seen l.fn.desk).told
          (g.D.Desk.seen l.desk).told;
      counts : OnlyWrites (g.D.Desk.seen l.fn.desk) (g.D.Desk.seen l.desk);
    }
