use Rattle.std.proofs.Common.{◌∙◌, ◌<◌, arith}
use Rattle.ring_compile.proofs.Judging.{few_places}
use Rattle.ring_compile.proofs.ring.Ring.ends.Goals as goal

pub overflow_cast-result : goal.overflow_cast-result
overflow_cast-result c =
    let few : c.in-Some.block < 16 =
    few_places c.self.inside.values c.deref.result.now c.in-Some.block c.self.invariant.judged.ring.blocks.1
    (c.deref.ensures.value ∙ c.self.invariant.last_writes) c.in-Some.ensures.within
    in
    omega arith
