use Rattle.std.proofs.Common.{◌+◌, ◌*◌, ◌-◌, ◌++◌, ◌∷◌, [], ◌∙◌, List, ℕ, ap, arith}
use Rattle.slot_chain.proofs.Loops.{loop_more}
use Rattle.slot_chain.proofs.making.push_loop.Goals as goal

pub loop-slot-preserved : goal.loop-slot-preserved
loop-slot-preserved c chain base slots =
    let slot = c.loop-slot.slot in
    let address : ℕ = c.args.base + 8 * (slot + 1) in
    let test = c.loop-slot-test.true in
    loop_more chain slot (c.args.slots - slot) (c.args.slots - (slot + 1)) address c.loop-slot.out.items c.push-in-loop-slot.new.self.items
    (omega arith)
    (c.in_ok-push-2.ensures.items ∙ ap (λ (words : List ℕ). words ++ address ∷ []) c.in_ok-push.ensures.items) (omega (arith, base))
    ∙ c.loop-slot.invariant chain base slots
