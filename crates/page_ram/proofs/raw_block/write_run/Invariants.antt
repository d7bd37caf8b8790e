use Rattle.std.proofs.Common.{◌≡◌, ◌+◌, drop, length, map, Some}
use Rattle.page_ram.specs.Extents.{set_run}
use Rattle.page_ram.proofs.raw_block.write_run.Given as goal

abbrev pub invariant-loop-byte : goal.invariant-loop-byte
invariant-loop-byte l =
    record {
      at_is : l.at ≡ l.fn.index + l.byte-index;
      same : l.cells.at ≡ l.fn.cells.at;
      long : length l.cells.slots ≡ length l.fn.cells.slots;
      written : set_run l.cells.slots l.at (map Some (drop l.byte-index l.bytes)) ≡ set_run l.fn.cells.slots l.fn.index (map Some l.bytes);
    }
