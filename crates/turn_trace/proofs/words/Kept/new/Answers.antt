use Rattle.std.proofs.Common.{arith}
use Rattle.turn_trace.proofs.KeptWords.{spelled-kept}
use Rattle.turn_trace.proofs.words.Kept.new.Goals as goal

pub invariant_of-result : goal.invariant_of-result
invariant_of-result c =
    let at = c.space_and_address-at in
    let bits = c.space_and_address-bits in
    spelled-kept c.args.pc c.args.int_stat at.result bits.result (omega (arith, at.type_inv))
    (omega (arith, bits.type_inv)) at.ensures.digits bits.ensures.digits at.ensures.text bits.ensures.text
