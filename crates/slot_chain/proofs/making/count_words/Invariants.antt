use Rattle.slot_chain.proofs.Counting.{IsCounted}
use Rattle.slot_chain.proofs.making.count_words.Given as goal

abbrev pub invariant-loop-part : goal.invariant-loop-part
invariant-loop-part l = IsCounted l.slots l.parts l.part-index l.count
