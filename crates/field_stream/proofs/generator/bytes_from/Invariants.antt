use Rattle.std.proofs.Common.{◌≡◌, ◌+◌, ◌%◌, ◌<◌, ℕ, slice_index}
use Rattle.field_stream.specs.Generator.{number_after}
use Rattle.field_stream.proofs.generator.bytes_from.Given as goal

abbrev pub invariant-loop-byte : goal.invariant-loop-byte
invariant-loop-byte l =
    record {
      number : l.number ≡ number_after l.first l.byte-index;
      small : l.number < 65537;
      bytes : (k : ℕ) → k < l.byte-index → slice_index l.byte-items k ≡ number_after l.first (k + 1) % 256;
    }
