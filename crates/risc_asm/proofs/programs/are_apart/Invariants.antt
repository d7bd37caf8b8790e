use Rattle.std.proofs.Common.{drop, ◌≤◌, ◌+◌, ◌^◌}
use Rattle.machine_model.specs.Paths.{AreApart}
use Rattle.risc_asm.proofs.programs.are_apart.Given as goal

abbrev pub invariant-loop-number : goal.invariant-loop-number
invariant-loop-number l = record {
  low : l.from ≤ 2 ^ 32 + 1;
  forth : AreApart 0 l.spans → AreApart l.from (drop l.number l.spans);
  back : AreApart l.from (drop l.number l.spans) → AreApart 0 l.spans;
}
