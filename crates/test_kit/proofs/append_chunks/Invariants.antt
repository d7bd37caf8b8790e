use Rattle.std.proofs.Common.{◌≡◌, ◌++◌, drop}
use Rattle.std.specs.List.{flat_map}
use Rattle.test_kit.specs.ProgramFiles.{chunk_bytes}
use Rattle.test_kit.proofs.append_chunks.Given as goal

abbrev pub invariant-loop-chunk : goal.invariant-loop-chunk
invariant-loop-chunk l =
    l.bytes.items ++ flat_map (chunk_bytes l.paged) (drop l.chunk-index l.chunks)
    ≡ l.fn.bytes.items ++ flat_map (chunk_bytes l.paged) l.chunks
