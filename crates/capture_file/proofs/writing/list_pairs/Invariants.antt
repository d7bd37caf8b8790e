use Rattle.std.proofs.Common.{◌≡◌, ◌*◌, take, drop}
use Rattle.std.specs.List.{flat_map}
use Rattle.capture_file.specs.Programs.{chunk_numbers}
use Rattle.capture_file.proofs.writing.list_pairs.Given as goal

abbrev pub invariant-loop-i : goal.invariant-loop-i
invariant-loop-i l = take (2 * l.i) l.out ≡ flat_map chunk_numbers (take l.i (drop l.from l.grants))
