use Rattle.std.proofs.Common.{◌≡◌, ◌++◌, ◌-◌, ◌*◌, drop, length, take}
use Rattle.capture_file.specs.Programs.{words_in}
use Rattle.capture_file.proofs.program.read_numbers.Given as goal

abbrev pub invariant-loop-i : goal.invariant-loop-i
invariant-loop-i l =
    take l.i l.numbers ++ words_in (length l.fn.numbers - l.i) (drop (4 * l.i) l.bytes) ≡ words_in (length l.fn.numbers) l.bytes
