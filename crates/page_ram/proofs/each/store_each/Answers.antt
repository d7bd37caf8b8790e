use Rattle.std.proofs.Common.{◌+◌, drop, ap, sym, ◌∙◌, arith}
use Rattle.std.proofs.lemmas.List.{drop_more}
use Rattle.page_table.specs.Grants.{granted}
use Rattle.page_table.specs.Blocks.{chunks_of, stored_run}
use Rattle.page_table.proofs.Grants.{all_granted}
use Rattle.page_table.proofs.Memory.{chunks_of-stored}
use Rattle.page_ram.proofs.each.store_each.Goals as goal

pub store_byte-requires : goal.store_byte-requires
store_byte-requires g c =
    ap (λ chunks. granted chunks c.loop-byte.address) c.loop-byte.invariant.chunks
    ∙ all_granted (chunks_of (g.S.ByteStore.bytes c.args.ram.now)) c.args.addr _ c.loop-byte.address c.requires.granted (omega arith)
    (omega arith)

pub loop-byte-preserved : goal.loop-byte-preserved
loop-byte-preserved g c =
    let before = g.S.ByteStore.bytes c.loop-byte.ram in
    record {
      address_is = omega arith;
      chunks = ap chunks_of c.store_byte.ensures.stored ∙ chunks_of-stored before _ _ ∙ c.loop-byte.invariant.chunks;
      memory =
          ap (λ m. stored_run m (c.loop-byte.address + 1) (drop (c.loop-byte.byte-index + 1) c.args.bytes.now)) c.store_byte.ensures.stored
          ∙ sym (ap (stored_run before c.loop-byte.address) (drop_more c.args.bytes.now c.loop-byte.byte-index 0 c.loop-byte-test.true))
          ∙ c.loop-byte.invariant.memory;
    }
