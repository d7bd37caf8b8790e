use Rattle.std.proofs.Common.{◌≡◌, ◌++◌, ◌+◌, ◌-◌, ◌*◌, ◌≤◌, drop, length}
use Rattle.capture_file.specs.Programs.{words_in}
use Rattle.capture_file.proofs.program.append_words.Given as goal

abbrev pub invariant-loop-at : goal.invariant-loop-at
invariant-loop-at l = record {
  words : l.words.items ++ words_in (l.fn.count - l.at) (drop (4 * l.at) l.bytes) ≡ l.fn.words.items ++ words_in l.fn.count l.bytes;
  len : length l.words.items ≡ length l.fn.words.items + l.at;
  within : l.at ≤ l.fn.count;
}

abbrev pub decreases-loop-at : goal.decreases-loop-at
decreases-loop-at l = l.fn.count - l.at
