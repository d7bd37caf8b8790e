use Rattle.std.proofs.Common.{◌≡◌, ◌-◌, ◌*◌, ◌<◌, drop, length}
use Rattle.capture_file.specs.Programs.{with_words, words_in}
use Rattle.capture_file.proofs.program.push_words.Given as goal

abbrev pub invariant-loop-number : goal.invariant-loop-number
invariant-loop-number l = record {
  words : with_words l.spans (words_in (l.count - l.number) (drop (4 * l.number) l.bytes))
      ≡ with_words l.fn.spans (words_in l.count l.bytes);
  some : 0 < length l.spans;
}
