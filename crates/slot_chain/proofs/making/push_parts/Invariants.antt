use Rattle.std.proofs.Common.{◌≡◌, ◌++◌, take}
use Rattle.chain_model.specs.Chains.{words_of_parts}
use Rattle.slot_chain.proofs.making.push_parts.Given as goal

abbrev pub invariant-loop-part : goal.invariant-loop-part
invariant-loop-part l = l.out.items ≡ l.fn.out.items ++ words_of_parts (take l.part-index l.parts)
