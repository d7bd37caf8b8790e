use Rattle.std.proofs.Common.{◌≡◌, ◌-◌, ◌++◌, None}
use Rattle.std.specs.Prelude.{replicate}
use Rattle.chain_model.specs.Chains.{Chain, loop_words, unpatched}
use Rattle.slot_chain.proofs.making.push_loop.Given as goal

abbrev pub invariant-loop-slot : goal.invariant-loop-slot
invariant-loop-slot l = (chain : Chain) → chain.base ≡ l.base → chain.slots ≡ l.slots →
    l.out.items ++ loop_words chain l.slot (replicate (l.slots - l.slot) None) ≡ l.fn.out.items ++ loop_words chain 0 (unpatched chain)
