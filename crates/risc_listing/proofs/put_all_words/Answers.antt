use Rattle.std.proofs.Common.{subst, sym, List, ◌^◌, ◌≤◌}
use Rattle.std.specs.List.{All}
use Rattle.machine_model.specs.Paths.{Span, end_of}
use Rattle.risc_listing.proofs.Spans.{spans_end}
use Rattle.risc_listing.proofs.put_all_words.Goals as goal

pub put_spans-requires : goal.put_spans-requires
put_spans-requires c =
    subst (λ (spans : List Span). All (λ s. end_of s ≤ 2 ^ 32) spans) (sym c.spans.ensures.value)
    (spans_end 0 c.args.program.now.spans c.spans.ensures.made.spans)
