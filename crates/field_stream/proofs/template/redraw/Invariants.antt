use Rattle.std.proofs.Common.{◌≡◌, ℕ, List, length}
use Rattle.field_stream.specs.Made.{records}
use Rattle.field_stream.specs.Pushes.{Push}
use Rattle.field_stream.specs.Lines.{AreWhole}
use Rattle.field_stream.proofs.Redrawing.{redrawn}
use Rattle.field_stream.proofs.template.redraw.Given as goal

abbrev pub invariant-loop-index : goal.invariant-loop-index
invariant-loop-index l =
    record {
      long : length l.bytes ≡ length l.fn.bytes;
      value : (pushes : List Push) (old : ℕ) → AreWhole pushes → length pushes ≡ l.entries → l.fn.bytes ≡ records old pushes →
          l.bytes ≡ redrawn l.index l.generator old pushes;
    }
