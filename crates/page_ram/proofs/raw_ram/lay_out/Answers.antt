use Rattle.std.proofs.Common.{arith, refl}
use Rattle.page_table.specs.Grants.{chunk}
use Rattle.page_ram.specs.declared.raw_ram.Extent.{Extent}
use Rattle.page_ram.proofs.Extents.{laid_more}
use Rattle.page_ram.proofs.raw_ram.lay_out.Goals as goal

pub loop-i-preserved : goal.loop-i-preserved
loop-i-preserved c =
    let before = c.loop-i.invariant in
    let pushed : Extent = record { at = c.get.result; len = c.size-len.result; from = c.loop-i.from } in
    laid_more c.loop-i.extents.items c.push.new.self.items c.args.grants.now c.loop-i.i c.loop-i.from pushed
    (omega arith) before.0 before.1 before.2 refl
    (λ i. chunk (c.get.ensures.value i) (c.size-len.ensures.value i)) c.in_ok-push.ensures.items
