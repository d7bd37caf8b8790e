use Rattle.std.proofs.Common.{◌≡◌, map, take, drop}
use Rattle.page_table.specs.Grants.{Chunk}
use Rattle.capture_file.proofs.writing.list_addresses.Given as goal

abbrev pub invariant-loop-i : goal.invariant-loop-i
invariant-loop-i l = take l.i l.out ≡ map (λ (c : Chunk). c.at) (take l.i (drop l.from l.grants))
