use Rattle.std.proofs.Common.{ap, ◌∙◌}
use Rattle.page_table.specs.Blocks.{chunks_of, byte_at}
use Rattle.page_table.proofs.Memory.{chunks_of-stored, byte_at-stored_same}
use Rattle.machine_cases.proofs.memory.exchange.Goals as goal

pub load-requires : goal.load-requires
load-requires g c =
    let written = c.store.ensures.stored in
    rw (written, chunks_of-stored) c.requires

pub returns-clause-kept : goal.returns-clause-kept
returns-clause-kept g c =
    ap chunks_of c.store.ensures.stored ∙ chunks_of-stored (g.R.Ram.memory c.args.ram.now) c.args.addr c.args.byte

pub returns-clause-read : goal.returns-clause-read
returns-clause-read g c =
    c.load.ensures.value ∙ ap (λ m. byte_at m c.args.addr) c.store.ensures.stored
    ∙ byte_at-stored_same (g.R.Ram.memory c.args.ram.now) c.args.addr c.args.byte c.requires
