use Rattle.std.proofs.Common.{ℕ, ◌*◌, ◌∙◌, ap, sym}
use Rattle.field_stream.specs.Pushes.{frame_pushes}
use Rattle.field_stream.proofs.Counting.{count_repeated}
use Rattle.field_stream.proofs.counts.Made.of.Goals as goal

pub returns-clause-entries : goal.returns-clause-entries
returns-clause-entries c =
    ap (λ (n : ℕ). n * c.from-3.result) c.from-2.ensures
    ∙ ap (λ (n : ℕ). c.args.frames * n) (c.from-3.ensures ∙ c.frame_entries.ensures)
    ∙ sym (count_repeated c.args.frames (frame_pushes c.args.frame.now))
