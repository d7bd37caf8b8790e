use Rattle.std.proofs.Common.{◌≡◌, ◌+◌, drop}
use Rattle.page_table.specs.Blocks.{chunks_of, stored_run}
use Rattle.page_ram.proofs.each.store_each.Given as goal

abbrev pub invariant-loop-byte : goal.invariant-loop-byte
invariant-loop-byte g l =
    record {
      address_is : l.address ≡ l.fn.addr + l.byte-index;
      chunks : chunks_of (g.S.ByteStore.bytes l.ram) ≡ chunks_of (g.S.ByteStore.bytes l.fn.ram);
      memory :
          stored_run (g.S.ByteStore.bytes l.ram) l.address (drop l.byte-index l.bytes)
          ≡ stored_run (g.S.ByteStore.bytes l.fn.ram) l.fn.addr l.bytes;
    }
