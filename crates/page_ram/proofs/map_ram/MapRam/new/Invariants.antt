use Rattle.std.proofs.Common.{◌≡◌, take}
use Rattle.page_table.specs.Blocks.{filled}
use Rattle.page_ram.proofs.map_ram.MapRam.new.Given as goal

abbrev pub invariant-loop-i : goal.invariant-loop-i
invariant-loop-i l = l.blocks.items ≡ filled l.fill (take l.i l.grants)
