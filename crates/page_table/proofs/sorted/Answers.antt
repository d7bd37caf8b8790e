use Rattle.std.proofs.Common.{◌∙◌, sym}
use Rattle.page_table.proofs.Gathering.{pair_chunk_at, one_more_pair}
use Rattle.page_table.proofs.sorted.Goals as goal

pub shares_byte-requires-clause-chunk : goal.shares_byte-requires-clause-chunk
shares_byte-requires-clause-chunk c =
    pair_chunk_at c.args.chunks.now c.loop-i.i c.requires.aligned c.loop-i-test.true

pub loop-i-preserved : goal.loop-i-preserved
loop-i-preserved c =
    let more =
    one_more_pair c.loop-i.set.entries c.args.chunks.now c.loop-i.i c.requires.aligned c.loop-i-test.true c.loop-i.invariant
    (sym c.shares_byte.ensures ∙ c.if-shares_byte.false) in
    let e = c.in_ok-insert.ensures.entries in
    rw e more
