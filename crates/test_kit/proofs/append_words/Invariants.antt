use Rattle.std.proofs.Common.{◌≡◌, ◌++◌, drop}
use Rattle.std.specs.List.{flat_map}
use Rattle.byteorder.specs.Endian.{little_bytes}
use Rattle.test_kit.proofs.append_words.Given as goal

abbrev pub invariant-loop-word : goal.invariant-loop-word
invariant-loop-word l =
    l.bytes.items ++ flat_map (little_bytes 4) (drop l.word-index l.words) ≡ l.fn.bytes.items ++ flat_map (little_bytes 4) l.words
