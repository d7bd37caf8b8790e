use Rattle.std.proofs.Common.{refl, sym}
use Rattle.dma_machine.proofs.Standing.{still_acted}
use Rattle.dma_machine.proofs.engine.Engine.act.Goals as goal

pub is_known_still-requires : goal.is_known_still-requires
is_known_still-requires g c = c.requires.stands

pub act_anew-requires : goal.act_anew-requires
act_anew-requires g c = c.requires.can

pub returns-else-not-is_known_still-clause-state : goal.returns-else-not-is_known_still-clause-state
returns-else-not-is_known_still-clause-state g c = sym (still_acted _ (c.if-not-is_known_still.ensures refl))

pub returns-else-not-is_known_still-clause-stands : goal.returns-else-not-is_known_still-clause-stands
returns-else-not-is_known_still-clause-stands g c = c.requires.stands
