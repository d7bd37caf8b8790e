use Rattle.std.proofs.Common.{drop}
use Rattle.std.specs.List.{flat_map}
use Rattle.risc_listing.specs.Listings.{span_lines}
use Rattle.risc_asm.proofs.Matching.{Matched}
use Rattle.risc_asm.proofs.compare.after_spans.Given as goal

abbrev pub invariant-loop-number : goal.invariant-loop-number
invariant-loop-number l = Matched (flat_map span_lines l.spans) (flat_map span_lines (drop l.number l.spans)) l.text l.rest
