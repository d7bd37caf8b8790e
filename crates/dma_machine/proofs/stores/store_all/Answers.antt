use Rattle.std.proofs.Common.{length, sym, ◌∙◌, arith}
use Rattle.page_table.specs.Blocks.{chunks_of}
use Rattle.dma_machine.proofs.Storing.{all_stored}
use Rattle.machine_model.proofs.Demanded.{written-IsRange}
use Rattle.dma_machine.proofs.stores.store_all.Goals as goal

pub overflow_cast-address : goal.overflow_cast-address
overflow_cast-address g c =
    let range = written-IsRange (chunks_of (g.R.Ram.memory c.args.ram.now)) c.args.address (length c.args.bytes.now) c.requires in
    record { fits = grind (arith, range.ends, c.if-is_empty.ensures) }

pub store_run-requires : goal.store_run-requires
store_run-requires g c =
    let range = written-IsRange (chunks_of (g.R.Ram.memory c.args.ram.now)) c.args.address (length c.args.bytes.now) c.requires in
    record { within = range.ends; granted = range.whole }

pub returns-clause-memory : goal.returns-clause-memory
returns-clause-memory g c =
    c.store_run.ensures ∙ sym (all_stored (g.R.Ram.memory c.args.ram.now) c.args.lane c.args.address c.args.bytes.now).stores

pub returns-clause-stored : goal.returns-clause-stored
returns-clause-stored g c =
    sym (all_stored (g.R.Ram.memory c.args.ram.now) c.args.lane c.args.address c.args.bytes.now).many
