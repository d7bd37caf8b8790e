use Rattle.std.proofs.Common.{drop, ◌≡◌, ◌++◌, string_bytes}
use Rattle.page_table.specs.Taken.{listed}
use Rattle.risc_listing.specs.Listings.{chunk_line}
use Rattle.std.specs.List.{flat_map}
use Rattle.risc_listing.proofs.put_chunks.Given as goal

abbrev pub invariant-loop-at : goal.invariant-loop-at
invariant-loop-at l =
    string_bytes l.text ++ flat_map chunk_line (listed (drop l.at-index l.at-items))
    ≡ string_bytes l.fn.text ++ flat_map chunk_line l.chunks
