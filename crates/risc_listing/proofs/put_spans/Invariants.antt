use Rattle.std.proofs.Common.{drop, ◌≡◌, ◌++◌}
use Rattle.std.specs.List.{flat_map}
use Rattle.risc_listing.specs.Listings.{span_lines}
use Rattle.risc_listing.proofs.put_spans.Given as goal

abbrev pub invariant-loop-number : goal.invariant-loop-number
invariant-loop-number l =
    l.text.items ++ flat_map span_lines (drop l.number l.spans) ≡ l.fn.text.items ++ flat_map span_lines l.spans
