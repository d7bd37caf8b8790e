use Rattle.dma_machine.proofs.Machines.{IsMachine-pc}
use Rattle.dma_machine.proofs.Machine.next_fetch.Goals as goal

pub next_fetch-requires : goal.next_fetch-requires
next_fetch-requires g c = IsMachine-pc _ c.self.invariant.0
