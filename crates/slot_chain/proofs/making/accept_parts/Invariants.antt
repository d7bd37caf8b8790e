use Rattle.std.proofs.Common.{length}
use Rattle.slot_chain.specs.States.{chain_of}
use Rattle.slot_chain.proofs.Parts.{AreFirst}
use Rattle.slot_chain.proofs.making.accept_parts.Given as goal

abbrev pub invariant-loop-part : goal.invariant-loop-part
invariant-loop-part g l =
    AreFirst (chain_of l.base l.slots l.parts l.grants) (length l.words) l.part-index l.programs.items l.head l.fn.steps l.steps
