use Rattle.std.proofs.Common.{take, drop, ◌∙◌, ap}
use Rattle.capture_file.specs.Programs.{numbers_spelled}
use Rattle.capture_file.proofs.Puts.{pages_are_numbers, chunks_are_numbers}
use Rattle.capture_file.proofs.writing.list_chunks.Goals as goal

pub returns-in-Paged-clause-numbers : goal.returns-in-Paged-clause-numbers
returns-in-Paged-clause-numbers c =
    rw c.in-Paged.is
    (ap numbers_spelled c.list_addresses.ensures ∙ pages_are_numbers (take c.args.count (drop c.args.from c.args.grants.now)))

pub returns-in-Chunked-clause-numbers : goal.returns-in-Chunked-clause-numbers
returns-in-Chunked-clause-numbers c =
    rw c.in-Chunked.is
    (ap numbers_spelled c.list_pairs.ensures ∙ chunks_are_numbers (take c.args.count (drop c.args.from c.args.grants.now)))
