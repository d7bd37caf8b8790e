use Rattle.std.proofs.Common.{◌≡◌, ◌+◌, true, false, List, length, drop, sym, ap, ◌∙◌, arith}
use Rattle.page_table.specs.Blocks.{chunks_of}
use Rattle.machine_model.specs.Turns.{Store, is_off, stored_all, stores_from}
use Rattle.page_table.proofs.Memory.{chunks_of-stored}
use Rattle.dma_machine.proofs.Storing.{lane_on, lane_off}
use Rattle.dma_machine.proofs.stores.store_from.Goals as goal
use Rattle.dma_machine.proofs.stores.store_from.Goals.{then-not-is_off, else-not-is_off}

pub loop-byte-preserved : goal.loop-byte-preserved
loop-byte-preserved g c =
    let rest : List Store =
    stores_from c.args.off (c.loop-byte.lane + 1) (c.loop-byte.address + 1) (drop (c.loop-byte.byte-index + 1) c.args.bytes.now) in
    elim c.if-not-is_off.branch [
      | then-not-is_off w ↦
          let on : is_off c.args.off c.loop-byte.lane ≡ false = cc in
          let next =
          lane_on c.args.off c.loop-byte.lane c.loop-byte.address c.loop-byte.byte-index c.args.bytes.now c.loop-byte-test.true on in
          let made = ap g.R.Ram.memory w.ram-is ∙ w.store.ensures.stored in
          record {
            lane_is = omega arith;
            address_is = omega arith;
            few = omega arith;
            chunks = ap chunks_of made ∙ chunks_of-stored _ _ _ ∙ c.loop-byte.invariant.chunks;
            memory =
                ap (λ m. stored_all m rest) made ∙ ap (stored_all (g.R.Ram.memory c.loop-byte.ram)) (sym next)
                ∙ c.loop-byte.invariant.memory;
            count = omega (arith, ap length next);
          }
      | else-not-is_off w ↦
          let off : is_off c.args.off c.loop-byte.lane ≡ true = cc in
          let next =
          lane_off c.args.off c.loop-byte.lane c.loop-byte.address c.loop-byte.byte-index c.args.bytes.now c.loop-byte-test.true off in
          let same = ap g.R.Ram.memory w.ram-is in
          record {
            lane_is = omega arith;
            address_is = omega arith;
            few = omega arith;
            chunks = ap chunks_of same ∙ c.loop-byte.invariant.chunks;
            memory =
                ap (λ m. stored_all m rest) same ∙ ap (stored_all (g.R.Ram.memory c.loop-byte.ram)) (sym next)
                ∙ c.loop-byte.invariant.memory;
            count = omega (arith, ap length next);
          }
    ]
