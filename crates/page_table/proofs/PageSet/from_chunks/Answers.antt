use Rattle.std.proofs.Common.{◌≡◌, true, sym, ◌∙◌}
use Rattle.std.proofs.lemmas.List.Elements.{All-map}
use Rattle.page_table.specs.Taken.{pair_chunk, is_aligned}
use Rattle.page_table.proofs.Gathering.{none_found}
use Rattle.page_table.proofs.PageSet.from_chunks.Goals as goal

pub gathered-requires-clause-aligned : goal.gathered-requires-clause-aligned
gathered-requires-clause-aligned c =
    All-map (λ chunk. is_aligned chunk ≡ true) pair_chunk c.args.chunks.now
    (none_found (λ pair. is_aligned (pair_chunk pair)) c.args.chunks.now (sym c.first_unaligned.ensures.found ∙ c.in_default.is))
