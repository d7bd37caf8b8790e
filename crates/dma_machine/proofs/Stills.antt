-- Where nothing is noted of how the machine stands, nothing is said.
use Rattle.std.proofs.Common.{◌≡◌}
use Rattle.machine_model.specs.States.{State}
use Rattle.dma_machine.specs.declared.engine.Standing.{Standing}
use Rattle.dma_machine.specs.declared.engine.Standing.TheVariants.{Unknown, Still, Open}
use Rattle.dma_machine.specs.Stills.{StandsAs}

pub not_still : (noted : Standing) (m : State) → noted ≡ Unknown → StandsAs noted m
not_still Unknown m e = tt
not_still Still m e = absurd cc
not_still Open m e = absurd cc
