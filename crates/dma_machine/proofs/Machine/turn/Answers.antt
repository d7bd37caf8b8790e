use Rattle.machine_model.proofs.WritesAndFetches.{StaysInside-safe}
use Rattle.dma_machine.proofs.Machine.turn.Goals as goal

pub returns-clause-inside : goal.returns-clause-inside
returns-clause-inside g c = StaysInside-safe _ c.count.ensures.before.sound c.count.ensures.before.safe

pub returns-clause-no_error : goal.returns-clause-no_error
returns-clause-no_error g c = c.act.ensures.facts.safe.no_error
