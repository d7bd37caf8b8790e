use Rattle.std.proofs.Common.{◌≡◌, ◌≤◌, take}
use Rattle.risc_text.specs.Assembly.{line_count}
use Rattle.risc_asm.proofs.search.count_lines.Given as goal

abbrev pub invariant-loop-byte : goal.invariant-loop-byte
invariant-loop-byte l = record {
  number : l.number ≡ line_count (take l.byte-index l.text);
  within : l.number ≤ l.byte-index;
}
