use Rattle.std.proofs.Common.{◌≡◌, ◌*◌, take}
use Rattle.capture_file.specs.Programs.{numbers_spelled}
use Rattle.capture_file.proofs.writing.spell.Given as goal

abbrev pub invariant-loop-i : goal.invariant-loop-i
invariant-loop-i l = take (4 * l.i) l.out ≡ numbers_spelled (take l.i l.numbers)
