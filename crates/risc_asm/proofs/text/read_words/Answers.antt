use Rattle.std.proofs.Common.{arith}
use Rattle.risc_asm.specs.Drafts.{seen}
use Rattle.risc_asm.proofs.Telling.{grown_by, grown_further}
use Rattle.risc_asm.proofs.text.read_words.Goals as goal

pub loop-rest-preserved : goal.loop-rest-preserved
loop-rest-preserved c =
    let shorter = rw c.in-Some.is at c.in_ok-left.ensures.rest in
    let took = rw c.in-Some.is at c.in_ok-left.ensures.taken in
    record {
      within = omega (arith, c.loop-rest.invariant.within, shorter, c.in-32.len_at_least);
      grown =
          grown_further _ _ _ c.loop-rest.invariant.grown
          (grown_by (seen c.loop-rest.draft) (seen c.take_words_line.new.self) _ c.in-Some.left.now took);
    }
