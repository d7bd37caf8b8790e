use Rattle.dma_machine.proofs.Machines.{IsMachine-pc}
use Rattle.dma_machine.proofs.Machine.next_retirement.Goals as goal

pub next_retirement-requires : goal.next_retirement-requires
next_retirement-requires g c = IsMachine-pc _ c.self.invariant.0
