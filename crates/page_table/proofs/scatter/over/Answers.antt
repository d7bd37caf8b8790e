use Rattle.page_table.specs.Taken.{listed}
use Rattle.page_table.proofs.Scattered.{total-le}
use Rattle.page_table.proofs.scatter.over.Goals as goal

pub ends_of-requires : goal.ends_of-requires
ends_of-requires c =
    let e = c.deref.ensures.value in
    rw e (total-le (listed c.args.chunks.items) c.requires.aligned c.requires.apart)
