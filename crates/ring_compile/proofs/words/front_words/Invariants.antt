use Rattle.std.proofs.Common.{◌≡◌, map}
use Rattle.std.specs.List.{range_with_len}
use Rattle.ring_model.specs.Rings.{last_write}
use Rattle.ring_compile.proofs.Appending.{blocks_words}
use Rattle.ring_compile.proofs.words.front_words.Given as goal

abbrev pub invariant-loop-block : goal.invariant-loop-block
invariant-loop-block l =
    record {
      words : l.words.items ≡ blocks_words l.fn.values l.block;
      last_writes : l.last_writes.items ≡ map (last_write l.fn.values) (range_with_len 0 l.block);
    }
