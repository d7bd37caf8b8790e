use Rattle.std.proofs.Common.{◌≡◌, take}
use Rattle.page_table.specs.Grants.{total}
use Rattle.page_ram.specs.Extents.{extent_chunks, AreLaid}
use Rattle.page_ram.proofs.raw_ram.lay_out.Given as goal

abbrev pub invariant-loop-i : goal.invariant-loop-i
invariant-loop-i l =
    (extent_chunks l.extents.items ≡ take l.i l.grants) × AreLaid 0 l.extents.items × (l.from ≡ total (take l.i l.grants))
