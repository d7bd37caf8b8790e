use Rattle.std.proofs.Common.{◌≡◌}
use Rattle.page_table.specs.Blocks.{chunks_of}
use Rattle.machine_cases.proofs.memory.exchange_all.Given as goal

abbrev pub invariant-loop-addr : goal.invariant-loop-addr
invariant-loop-addr g l = chunks_of (g.R.Ram.memory l.ram) ≡ chunks_of (g.R.Ram.memory l.fn.ram)
