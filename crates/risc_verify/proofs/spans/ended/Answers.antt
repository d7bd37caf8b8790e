use Rattle.std.proofs.Common.{rules, arith, sym, Bool, nat_le}
use Rattle.std.proofs.lemmas.List.Sorted.{IsPartitionPoint-from_clause, IsPartitionedBy-leb}
use Rattle.std.proofs.lemmas.List.Sums.{prefix_len_is}
use Rattle.risc_verify.specs.declared.spans.SpanPlace.{SpanPlace}
use Rattle.risc_verify.specs.Places.{place, place_end}
use Rattle.risc_verify.proofs.spans.ended.Goals as goal

pub returns : goal.returns
returns c =
    let early : SpanPlace → Bool = λ p. nat_le (place_end p) c.args.address in
    let places = c.args.places.now in
    let number = c.partition_point.result in
    let parts =
    IsPartitionPoint-from_clause early places number c.partition_point.ensures.partitioned
    (IsPartitionedBy-leb place_end places c.args.address c.requires)
    (λ a r f called. search rules)
    in
    let d = place 0 0 0 in
    sym (prefix_len_is early places number d c.partition_point.ensures.bound (λ k below. parts.0 k d (omega arith) below)
    (λ below. parts.1 number d (omega arith) below))
