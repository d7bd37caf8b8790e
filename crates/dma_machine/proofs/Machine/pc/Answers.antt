use Rattle.dma_machine.proofs.Machines.{IsMachine-pc}
use Rattle.dma_machine.proofs.Machine.pc.Goals as goal

pub next_address-requires : goal.next_address-requires
next_address-requires g c = IsMachine-pc _ c.self.invariant.0
