use Rattle.std.proofs.Common.{◌≡◌, ◌+◌, ◌≤◌, length, drop}
use Rattle.machine_model.specs.Turns.{stored_all, stores_from}
use Rattle.page_table.specs.Blocks.{chunks_of}
use Rattle.dma_machine.proofs.stores.store_from.Given as goal

abbrev pub invariant-loop-byte : goal.invariant-loop-byte
invariant-loop-byte g l =
    record {
      lane_is : l.lane ≡ l.fn.lane + l.byte-index;
      address_is : l.address ≡ l.fn.address + l.byte-index;
      few : l.stored ≤ l.byte-index;
      chunks : chunks_of (g.R.Ram.memory l.ram) ≡ chunks_of (g.R.Ram.memory l.fn.ram);
      memory :
          stored_all (g.R.Ram.memory l.ram) (stores_from l.off l.lane l.address (drop l.byte-index l.bytes))
          ≡ stored_all (g.R.Ram.memory l.fn.ram) (stores_from l.off l.fn.lane l.fn.address l.bytes);
      count :
          l.stored + length (stores_from l.off l.lane l.address (drop l.byte-index l.bytes))
          ≡ length (stores_from l.off l.fn.lane l.fn.address l.bytes);
    }
