use Rattle.std.proofs.Common.{ap, ◌∙◌}
use Rattle.page_table.specs.Blocks.{chunks_of}
use Rattle.page_table.proofs.Memory.{chunks_of-stored_run}
use Rattle.machine_cases.proofs.memory.write_run.Goals as goal

pub returns : goal.returns
returns g c = ap chunks_of c.store_run.ensures ∙ chunks_of-stored_run (g.R.Ram.memory c.args.ram.now) c.args.addr c.args.bytes.now
