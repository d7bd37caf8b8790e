use Rattle.std.proofs.Common.{◌+◌, ◌*◌, Some, None, length, sym, ap, arith}
use Rattle.std.specs.Prelude.{nat_le}
use Rattle.std.proofs.lemmas.Bool.{cond-false, lt-leb}
use Rattle.machine_model.specs.Paths.{max_words}
use Rattle.chain_model.specs.Chains.{words_of_parts}
use Rattle.slot_chain.proofs.Loops.{too_many}
use Rattle.slot_chain.proofs.making.count_words.Goals as goal

pub returns-then-len-count : goal.returns-then-len-count
returns-then-len-count c =
    let more =
    too_many c.args.slots c.args.parts.now c.loop-part.part-index c.loop-part.count
    (length c.as_slice-len.result.now) c.part-item.result c.loop-part-test.true (sym c.part-item.is)
    c.loop-part.invariant.counted (ap length c.as_slice-len.ensures) c.loop-part.invariant.few (omega (arith, c.if-len-count.true)) in
    sym
    (cond-false (nat_le (2 * c.args.slots + 2 + length (words_of_parts c.args.parts.now)) max_words)
    (Some (2 * c.args.slots + 2 + length (words_of_parts c.args.parts.now))) None
    (lt-leb (2 * c.args.slots + 2 + length (words_of_parts c.args.parts.now)) max_words more))
