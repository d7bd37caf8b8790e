use Rattle.std.proofs.Common.{rules}
use Rattle.page_table.proofs.Memory.{chunks_of-filled}
use Rattle.machine_cases.proofs.machine.machine.Goals as goal

pub new-requires-3-clause-granted : goal.new-requires-3-clause-granted
new-requires-3-clause-granted g = search (rules, chunks_of-filled)
