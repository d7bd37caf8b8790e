use Rattle.std.proofs.Common.{◌≡◌, ◌++◌, drop}
use Rattle.capture_file.specs.Programs.{numbers_spelled}
use Rattle.capture_file.proofs.writing.append_numbers.Given as goal

abbrev pub invariant-loop-number : goal.invariant-loop-number
invariant-loop-number l = l.bytes.items ++ numbers_spelled (drop l.number-index l.numbers) ≡ l.fn.bytes.items ++ numbers_spelled l.numbers
