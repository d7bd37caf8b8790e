use Rattle.std.proofs.Common.{◌≡◌, true, take}
use Rattle.std.specs.List.{list_all}
use Rattle.page_table.specs.Blocks.{chunks_of}
use Rattle.page_table.specs.Grants.{is_page}
use Rattle.capture_file.proofs.image.layout_of_ram.Given as goal

abbrev pub invariant-loop-i : goal.invariant-loop-i
invariant-loop-i g l = list_all is_page (chunks_of (take l.i (g.R.Ram.memory l.ram))) ≡ true
