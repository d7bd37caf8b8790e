use Rattle.std.proofs.Common.{rules, Bool}
use Rattle.std.proofs.lemmas.List.Sorted.{IsPartitionPoint-from_clause, IsPartitionedBy-leb}
use Rattle.std.specs.Prelude.{nat_le}
use Rattle.page_ram.proofs.Places.{chunk_end, ends_rise-map, searched}
use Rattle.page_ram.proofs.span.search_place.Goals as goal

pub returns : goal.returns
returns g c =
    let chunk = g.S.Span.chunk in
    let spans = c.args.spans.now in
    let place = c.partition_point.result in
    let early : g.row.S.Denot → Bool = λ span. nat_le (chunk_end (chunk span)) c.args.addr in
    let rising = IsPartitionedBy-leb (λ span. chunk_end (chunk span)) spans c.args.addr (ends_rise-map chunk spans c.requires.rising) in
    let parts =
    IsPartitionPoint-from_clause early spans place c.partition_point.ensures.partitioned rising (λ a r f called. search rules) in
    searched chunk spans c.args.addr place c.partition_point.ensures.bound parts c.requires.rising c.requires.granted
