use Rattle.std.proofs.Common.{drop}
use Rattle.clip_spans.specs.Parts.{is_inside}
use Rattle.clip_spans.proofs.Merging.{IsMerged}
use Rattle.clip_spans.proofs.merged.Given as goal

abbrev pub invariant-loop-part : goal.invariant-loop-part
invariant-loop-part l =
    IsMerged (is_inside l.parts) l.width l.start l.done l.spans.items (drop l.part-index l.parts)
