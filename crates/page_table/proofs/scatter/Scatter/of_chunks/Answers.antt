use Rattle.std.proofs.Common.{arith}
use Rattle.page_table.proofs.ScatterLists.{length-le-chunks, scatter_list-of_chunks}
use Rattle.page_table.proofs.scatter.Scatter.of_chunks.Goals as goal

pub total-have-requires : goal.total-have-requires
total-have-requires c = length-le-chunks c.args.chunks.now c.requires

pub over-requires : goal.over-requires
over-requires c =
    let e = c.in_ok-chunks.ensures in
    rw e (scatter_list-of_chunks c.args.chunks.now c.args.len c.requires (omega arith))
