use Rattle.std.proofs.Common.{arith}
use Rattle.risc_asm.specs.Texts.{front_of}
use Rattle.risc_asm.proofs.Settling.{further, long}
use Rattle.risc_asm.proofs.text.settle.Goals as goal

pub loop-next-preserved : goal.loop-next-preserved
loop-next-preserved c =
    let s = c.loop-next.settled in
    let words = s.draft.words.items in
    let tells = rw c.deref.ensures.value at c.in-Some.ensures.0 in
    let so_far =
    further s.base words s.number c.in-Some.next s.front c.in-Some-checked_add.front
    (front_of c.args.settled) c.args.tail.now c.loop-next.rest.now c.in-Some.left.now c.loop-next.invariant.so_far tells
    (omega (arith, c.in-Some-checked_add.ensures))
    in
    record {
      so_far = so_far;
      long =
          long s.base words c.in-Some.next c.in-Some-checked_add.front (front_of c.args.settled) c.args.tail.now c.in-Some.left.now so_far;
    }
